-- What a remainder and a row answer, from what was put to the front of the lent terms.
use Rattle.std.proofs.Common.{◌≡◌, ℕ, ◌≤◌, List, length, None, Ok, Err, Result, sym, subst, subst₂}
use lib.ListN.{length-map}
use Rattle.monomial.specs.Division.{Within}
use Rattle.polynomial.specs.Polynomial.{Poly}
use Rattle.polynomial.specs.Check.{most_terms}
use Rattle.involutive.specs.Reduction.{row, left}
use Rattle.involutive.specs.Sheet.{Setting, State, Closed}
use Rattle.involutive.specs.Answers.{written, denied, first_fault, ReducesTo, Remains, remainder_faulty, remainder_stuck, remainder_short, remainder_written, Shows, row_short, row_written}
use Rattle.calls.specs.declared.refusal.Refusal.{Refusal}
use Rattle.calls.specs.Told.{told, wrote}
use Rattle.reduction.specs.declared.refusal.Denied.{Denied}
use Rattle.reduction.specs.declared.table.Row.{Row}
use Rattle.reduction.specs.Reducing.{ChecksAndReduces, unfit, fit, told as told_of}
use Rattle.reduction.specs.Table.{terms_of, table_of}
use Rattle.sheet.specs.Putting.{Put}

-- a polynomial that is not reduced has no remainder
pub remains_unreduced : {S : Setting} {s : State} {f g out : Poly} {d : Denied} → Closed S s → ChecksAndReduces S s.rows f (Err d) g → Remains S s f out (denied (told_of d)) out
remains_unreduced c (unfit e) = remainder_faulty c e
remains_unreduced c (fit e R) = remainder_stuck c e R.comes

-- what was put is g, which is left of f or row k
module _ {S : Setting} {s : State} {g h out : Poly} where
  pub remains_put : {f : Poly} → Closed S s → first_fault S f ≡ None → ReducesTo S s most_terms f (left g) → (r : Result ℕ Refusal) {out' : Poly} → h ≡ g → Put h out r out' → Remains S s f out (wrote r) out'
  remains_put {f} c e R r {out'} q p = go r (subst (λ x. Put x out r out') q p)
    where
      go : (r : Result ℕ Refusal) → Put g out r out' → Remains S s f out (wrote r) out'
      go (Ok n) p = subst₂ (λ m o. Remains S s f out (written m) o) (sym p.0) (sym p.2) (remainder_written c e R p.1)
      go (Err d) p = subst₂ (λ x o. Remains S s f out (denied (told x)) o) (sym p.0) (sym p.2) (remainder_short c e R p.1)

module _ {S : Setting} {s : State} (k : ℕ) {h out : Poly} where
  pub shows_put : Within k (length s.rows) → (r : Result ℕ Refusal) {out' : Poly} → h ≡ row s.rows k → Put h out r out' → Shows S s k out (wrote r) out'
  shows_put w r {out'} q p = go r (subst (λ x. Put x out r out') q p)
    where
      go : (r : Result ℕ Refusal) → Put (row s.rows k) out r out' → Shows S s k out (wrote r) out'
      go (Ok n) p = subst₂ (λ m o. Shows S s k out (written m) o) (sym p.0) (sym p.2) (row_written w p.1)
      go (Err d) p = subst₂ (λ x o. Shows S s k out (denied (told x)) o) (sym p.0) (sym p.2) (row_short w p.1)

pub no_row : (rows : List Row) (k : ℕ) → (Within k (length rows) → ⊥) → Within k (length (table_of rows)) → ⊥
no_row rows k n w = n (w.0, subst (λ x. k ≤ x) (length-map rows terms_of) w.1)

pub has_row : (rows : List Row) (k : ℕ) → Within k (length rows) → Within k (length (table_of rows))
has_row rows k w = (w.0, subst (λ x. k ≤ x) (sym (length-map rows terms_of)) w.1)
