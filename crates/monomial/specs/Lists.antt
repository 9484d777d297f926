-- A list of the code's monomials, as a list of exponents.
use Rattle.std.specs.Prelude.{ℕ, List, map}
use Rattle.monomial.specs.declared.Monomial.{Monomial}

abbrev pub exponents_of : List Monomial → List (List ℕ)
exponents_of ms = map (λ m. m.exponents) ms
