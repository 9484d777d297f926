-- What add answers, from what reducing the generator answered and what became of what was left.
use Rattle.std.proofs.Common.{◌≡◌, ℕ, List, ◌∷◌, [], length, None, Ok, Err, Result, subst, subst₂, arith, length-append}
use Rattle.monomial.specs.Monomial.{one}
use Rattle.polynomial.specs.Polynomial.{Poly}
use Rattle.polynomial.specs.Check.{most_terms}
use Rattle.involutive.specs.Reduction.{Table, left, Reduces}
use Rattle.involutive.specs.Value.{scaled}
use Rattle.involutive.specs.Sheet.{Setting, Lawful, State, with_row}
use Rattle.involutive.specs.Answers.{rows_now, denied, first_fault, ReducesTo, Adds, add_faulty, add_stuck, add_zero, add_full, add_row}
use Rattle.involutive.proofs.Soundness
use Rattle.calls.specs.declared.refusal.Refusal.{Refusal}
use Rattle.calls.specs.Told.{told}
use Rattle.reduction.specs.declared.refusal.Denied.{Denied}
use Rattle.reduction.specs.declared.table.Row.{Row}
use Rattle.reduction.specs.Table.{table_of}
use Rattle.reduction.specs.Reducing.{ChecksAndReduces, unfit, fit, told as told_of}
use Rattle.sheet.specs.declared.settle.Settled.{Settled}
use Rattle.sheet.specs.Settling.{Left, Settles, nothing, full, appends}

-- reducing by the slice of the rows is reducing by the rows
pub by_rows : {S : Setting} {slice rows : List Row} {f g : Poly} {r q : Result (Unit {0}) Denied} → slice ≡ rows → r ≡ q → ChecksAndReduces S (table_of slice) f r g → ChecksAndReduces S (table_of rows) f q g
by_rows {S} {f = f} {g = g} e d = subst₂ (λ x y. ChecksAndReduces S (table_of x) f y g) e d

-- a generator that is not reduced is denied
pub adds_unreduced : {S : Setting} {s : State} {f g : Poly} {d : Denied} → ChecksAndReduces S s.rows f (Err d) g → Adds S s f (denied (told_of d)) s
adds_unreduced (unfit e) = add_faulty e
adds_unreduced (fit e R) = add_stuck e R.comes

-- what is left of one that is reduced
pub record Taken (S : Setting) (T : Table) (f g : Poly) : Type 0 where
  pub faultless : first_fault S f ≡ None
  pub reduced : Reduces S.field S.order S.division S.variables T most_terms f (left g)

pub taken : {S : Setting} {T : Table} {f g : Poly} → ChecksAndReduces S T f (Ok tt) g → Taken S T f g
taken (fit e R) = record { faultless = e; reduced = R.comes }

pub left_of : {S : Setting} {T : Table} {f g : Poly} → Lawful S → Taken S T f g → Left S T g
left_of {S} {f = f} W K = let a = Soundness.reduces_acceptable S W K.reduced (Soundness.no_fault S W f K.faultless) in record { acceptable = a.0; irreducible = a.1 }

adds_rows : {S : Setting} {s s' : State} {f g : Poly} {x : Settled} → first_fault S f ≡ None → ReducesTo S s most_terms f (left g) → Settles S s g (Ok x) s' → Adds S s f (rows_now (length s'.rows)) s'
adds_rows e R nothing = add_zero e R
adds_rows {S} {s} {f = f} e R (appends {t = t} {g = g} l) =
    let k = length-append s.rows (scaled S.field (S.field.inv t.coefficient) one (t ∷ g) ∷ []) in
    subst (λ n. Adds S s f (rows_now n) (with_row S s (t ∷ g))) (omega (arith, k)) (add_row e R l)

pub adds_settled : {S : Setting} {s s' : State} {f g : Poly} {x : Settled} {n : ℕ} → Taken S s.rows f g → length s'.rows ≡ n → Settles S s g (Ok x) s' → Adds S s f (rows_now n) s'
adds_settled {S} {s} {s' = s'} {f = f} T k q = subst (λ n. Adds S s f (rows_now n) s') k (adds_rows T.faultless T.reduced q)

full_rows : {S : Setting} {s s' : State} {f g : Poly} {d : Refusal} → first_fault S f ≡ None → ReducesTo S s most_terms f (left g) → Settles S s g (Err d) s' → Adds S s f (denied (told d)) s'
full_rows e R (full m) = add_full e R m

pub adds_full : {S : Setting} {s s' : State} {f g : Poly} {d : Refusal} → Taken S s.rows f g → Settles S s g (Err d) s' → Adds S s f (denied (told d)) s'
adds_full T q = full_rows T.faultless T.reduced q
