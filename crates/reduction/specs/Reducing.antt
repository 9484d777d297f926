-- What reducing answers and leaves, in the words of the definitions.
use Rattle.std.specs.Prelude.{◌≡◌, ℕ, [], Some, None, Ok, Err, OnErr, Result, vec_items}
use Rattle.monomial.specs.Monomial.{variable}
use Rattle.polynomial.specs.declared.refusal.Refusal.{Refusal as Unfit}
use Rattle.polynomial.specs.Polynomial.{Poly, Written}
use Rattle.polynomial.specs.Check.{Fits, most_terms}
use Rattle.involutive.specs.Value.{scaled}
use Rattle.involutive.specs.Reduction.{Table, row, Refusal, refuse, Outcome, left, refused, Reduces}
use Rattle.involutive.specs.Sheet.{Setting}
use Rattle.involutive.specs.Answers.{first_fault, fault_refusal}
use Rattle.reduction.specs.declared.reduce.Work.{Work}
use Rattle.reduction.specs.declared.refusal.Denied.{Denied}
use Rattle.reduction.specs.declared.refusal.Denied.TheVariants.{Polynomial, Wide, Long}
use Rattle.reduction.specs.declared.refusal.Reason.{Reason}
use Rattle.reduction.specs.declared.refusal.Reason.TheVariants.{Wide as TooWide, Long as TooLong}

-- the number of a refusal
abbrev pub number : Reason → ℕ
number TooWide = 9
number TooLong = 10

-- why a polynomial is not reduced, by number and place
abbrev pub told : Denied → Refusal
told (Polynomial unfit) = fault_refusal unfit
told (Wide k) = refuse (number TooWide) k
told (Long k) = refuse (number TooLong) k

-- what is left of a polynomial, or why it is not reduced
abbrev pub outcome : Result (Unit {0}) Denied → Poly → Outcome
outcome (Ok u) g = left g
outcome (Err d) g = refused (told d)

module _ (S : Setting) (T : Table) where
  -- reducing h by the table, where a polynomial may have `room` terms: the answer, and what is left, which is nothing behind a refusal
  pub record Reduced (room : ℕ) (h : Poly) (r : Result (Unit {0}) Denied) (g : Poly) : Type 0 where
    pub comes : Reduces S.field S.order S.division S.variables T room h (outcome r g)
    pub nothing : OnErr r (g ≡ [])

  -- the same of a polynomial that is handed over: it is checked first
  pub data ChecksAndReduces (f : Poly) : Result (Unit {0}) Denied → Poly → Type 0 where
    unfit : {q : Unfit} → first_fault S f ≡ Some q → ChecksAndReduces f (Err (Polynomial q)) []
    fit : {r : Result (Unit {0}) Denied} {g : Poly} → first_fault S f ≡ None → Reduced most_terms f r g → ChecksAndReduces f r g

  -- row k times the variable v
  abbrev pub prolongation : ℕ → ℕ → Poly
  prolongation k v = scaled S.field 1 (variable v) (row T k)

  -- the same of a row times a variable: its exponents are looked at first
  pub data ProlongsAndReduces (k v : ℕ) : Result (Unit {0}) Denied → Poly → Type 0 where
    too_wide : (Fits (prolongation k v) → ⊥) → ProlongsAndReduces k v (Err (Wide k)) []
    small : {r : Result (Unit {0}) Denied} {g : Poly} → Fits (prolongation k v) → Reduced most_terms (prolongation k v) r g → ProlongsAndReduces k v r g

  -- reducing by the table comes to one thing: what is left is one, or the refusal is
  abbrev pub OneOutcome : Type 0
  OneOutcome = (room : ℕ) (h : Poly) (o p : Outcome) → Written S.field S.order S.variables h →
      Reduces S.field S.order S.division S.variables T room h o → Reduces S.field S.order S.division S.variables T room h p → o ≡ p

-- the memory holds no term
abbrev pub IsUnused : Work → Type 0
IsUnused w = (vec_items w.rest.terms ≡ []) × (vec_items w.done.terms ≡ []) × (vec_items w.spare.terms ≡ [])
