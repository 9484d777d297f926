-- A polynomial is a list of terms. Written down in the one right way its monomials fall and no coefficient is 0.
use Rattle.std.specs.Prelude.{ℕ, ◌<◌, List, [], ◌∷◌}
use mathlib.Core.List.{Memᴰ}
use Rattle.polynomial.specs.declared.term.Term.{Term}
use Rattle.field.specs.Field.{FieldMeaning}
use Rattle.monomial.specs.Monomial.{In, one}
use Rattle.monomial.specs.Order.{Compare, Under}

abbrev pub Poly : Type 0
Poly = List Term

abbrev pub exponents : Term → List ℕ
exponents t = t.monomial.exponents

abbrev pub term : ℕ → List ℕ → Term
term c m = record { coefficient = c; monomial = record { exponents = m } }

-- a polynomial over F in the variables 1 to n
abbrev pub Over : FieldMeaning → ℕ → Poly → Type 0
Over F n f = (t : Term) → Memᴰ t f → (t.coefficient < F.q) × In n (exponents t)

-- each term stands below the one before it
pub data Falling (O : Compare) : Poly → Type 0 where
  none : Falling O []
  single : {t : Term} → Falling O (t ∷ [])
  more : {t s : Term} {f : Poly} → Under O (exponents s) (exponents t) → Falling O (s ∷ f) → Falling O (t ∷ s ∷ f)

-- in falling order, with no coefficient 0: the one way to write a polynomial down
pub record Written (F : FieldMeaning) (O : Compare) (n : ℕ) (f : Poly) : Type 0 where
  pub over : Over F n f
  pub nonzero : (t : Term) → Memᴰ t f → 0 < t.coefficient
  pub falling : Falling O f

-- the monomial of the first term, and 1 where there is no term
abbrev pub leading : Poly → List ℕ
leading [] = one
leading (t ∷ f) = exponents t

abbrev pub leading_coefficient : Poly → ℕ
leading_coefficient [] = 0
leading_coefficient (t ∷ f) = t.coefficient
