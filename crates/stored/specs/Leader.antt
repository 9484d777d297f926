-- Words of the crate's own functions; no public contract cites them.
use Rattle.std.specs.Prelude.{[], ◌∷◌}
use Rattle.monomial.specs.declared.Monomial.{Monomial}
use Rattle.monomial.specs.Monomial.{one}
use Rattle.polynomial.specs.Polynomial.{Poly}

-- the leading monomial of a polynomial, as the program has it
abbrev pub leader_of : Poly → Monomial
leader_of [] = record { exponents = one }
leader_of (t ∷ f) = t.monomial
