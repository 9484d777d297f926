-- A polynomial that is handed over: what is acceptable, and the first check that fails.
use Rattle.std.specs.Prelude.{ℕ, suc, ◌-◌, ◌≤◌, Bool, true, cond, ◌&&◌, List, [], ◌∷◌, length, Some, None, Ok, Err, Option, Result, ◌==◌, nat_le, nat_lt}
use mathlib.Core.List.{Memᴰ}
use Rattle.std.specs.Ordering.{is_lt}
use Rattle.field.specs.Field.{FieldMeaning}
use Rattle.monomial.specs.Monomial.{Bounded, width}
use Rattle.monomial.specs.Order.{Compare}
use Rattle.polynomial.specs.declared.term.Term.{Term}
use Rattle.polynomial.specs.declared.refusal.Refusal.{Refusal}
use Rattle.polynomial.specs.declared.refusal.Refusal.TheVariants.{TooManyTerms, Coefficient, Exponent, NotFalling}
use Rattle.polynomial.specs.Polynomial.{Poly, exponents, Written}

-- the limits that bind the program
abbrev pub most_terms : ℕ
most_terms = 40

abbrev pub largest_exponent : ℕ
largest_exponent = 40

-- no exponent of any term is above the limit
abbrev pub Fits : Poly → Type 0
Fits f = (t : Term) → Memᴰ t f → Bounded largest_exponent (exponents t)

-- a polynomial in the variables 1 to n that may be handed over
pub record Acceptable (F : FieldMeaning) (O : Compare) (n : ℕ) (f : Poly) : Type 0 where
  pub written : Written F O n f
  pub fits : Fits f
  pub short : length f ≤ most_terms

-- a refusal's number and its place
abbrev pub number : Refusal → ℕ
number TooManyTerms = 5
number (Coefficient k) = 6
number (Exponent k) = 7
number (NotFalling k) = 8

abbrev pub place : Refusal → ℕ
place TooManyTerms = 0
place (Coefficient k) = k
place (Exponent k) = k
place (NotFalling k) = k

-- the coefficient is a code other than 0
abbrev pub is_code : FieldMeaning → ℕ → Bool
is_code F c = nat_lt 0 c && nat_lt c F.q

-- up to 40 each for the variables 1 to n, and 0 above
abbrev pub small_exponents : ℕ → List ℕ → Bool
small_exponents n [] = true
small_exponents n (e ∷ m) = nat_le e (cond (nat_lt 0 n) largest_exponent 0) && small_exponents (n - 1) m

abbrev pub has_exponents : ℕ → Term → Bool
has_exponents n t = length (exponents t) == width && small_exponents n (exponents t)

-- the first term stands below none
abbrev pub below_last : Compare → Option Term → Term → Bool
below_last O None t = true
below_last O (Some s) t = is_lt (O (exponents t) (exponents s))

module _ (F : FieldMeaning) (O : Compare) (n : ℕ) where
  -- the first check that fails at term k
  abbrev pub term_fault : Option Term → ℕ → Term → Option Refusal
  term_fault before k t =
      cond (is_code F t.coefficient)
      (cond (has_exponents n t)
      (cond (below_last O before t) None (Some (NotFalling k)))
      (Some (Exponent k)))
      (Some (Coefficient k))

  abbrev pub or_else : Option Refusal → Option Refusal → Option Refusal
  or_else None r = r
  or_else (Some q) r = Some q

  -- from term k on
  abbrev pub faults : Option Term → ℕ → Poly → Option Refusal
  faults before k [] = None
  faults before k (t ∷ f) = or_else (term_fault before k t) (faults (Some t) (suc k) f)

  abbrev pub fault : Poly → Option Refusal
  fault f = cond (nat_lt most_terms (length f)) (Some TooManyTerms) (faults None 1 f)

abbrev pub outcome : Option Refusal → Result (Unit {0}) Refusal
outcome None = Ok tt
outcome (Some r) = Err r
