-- What a step answers, from what reducing the prolongation of its pair answered and what became of what was left.
use Rattle.std.proofs.Common.{◌≡◌, ℕ, ◌≤◌, length, Bool, ◌&&◌, ◌||◌, eqb, List, Ok, Err, Result, sym, subst}
use lib.ListN.{length-map}
use Rattle.monomial.specs.Division.{Within}
use Rattle.polynomial.specs.Polynomial.{Poly}
use Rattle.polynomial.specs.Check.{Fits, most_terms}
use Rattle.involutive.specs.Reduction.{left}
use Rattle.involutive.specs.Sheet.{Setting, State, Chosen, prolonged, with_mark}
use Rattle.involutive.specs.Answers.{ReducesTo, Steps, denied, marked_answer, appended_answer, step_wide, step_stuck, step_mark, step_full, step_row}
use Rattle.involutive.proofs.Soundness
use Rattle.involutive.proofs.Typing.{ground_of}
use Rattle.calls.specs.declared.refusal.Refusal.{Refusal}
use Rattle.calls.specs.Told.{told}
use Rattle.reduction.specs.declared.refusal.Denied.{Denied}
use Rattle.reduction.specs.declared.table.Row.{Row}
use Rattle.reduction.specs.Table.{terms_of, table_of}
use Rattle.reduction.specs.Reducing.{ProlongsAndReduces, too_wide, small, told as told_of}
use Rattle.reduction.proofs.Prolonging.{acceptable}
use Rattle.sheet.specs.declared.settle.Settled.TheVariants.{Nothing, Appended}
use Rattle.sheet.specs.declared.settle.Settled.{Settled}
use Rattle.sheet.specs.Marks.{marked, state_of}
use Rattle.sheet.specs.Settling.{Left, Settles, nothing, full, appends}
use Rattle.sheet.proofs.Whole.{Whole}

-- reducing by the slice of the rows is reducing by the rows
pub by_rows : {S : Setting} {slice rows : List Row} {k v : ℕ} {g : Poly} {r : Result (Unit {0}) Denied} → slice ≡ rows → ProlongsAndReduces S (table_of slice) k v r g → ProlongsAndReduces S (table_of rows) k v r g
by_rows {S} {k = k} {v = v} {g = g} {r = r} e = subst (λ x. ProlongsAndReduces S (table_of x) k v r g) e

-- a prolongation that is not reduced is denied
pub steps_unreduced : {S : Setting} {s : State} {k v : ℕ} {g : Poly} {d : Denied} → Chosen S s k v → ProlongsAndReduces S s.rows k v (Err d) g → Steps S s (denied (told_of d)) s
steps_unreduced C (too_wide w) = step_wide C w
steps_unreduced C (small h R) = step_stuck C h R.comes

-- what is left of one that is reduced
pub record Taken (S : Setting) (s : State) (k v : ℕ) (g : Poly) : Type 0 where
  pub chosen : Chosen S s k v
  pub fits : Fits (prolonged S s k v)
  pub reduced : ReducesTo S s most_terms (prolonged S s k v) (left g)

pub taken : {S : Setting} {s : State} {k v : ℕ} {g : Poly} → Chosen S s k v → ProlongsAndReduces S s.rows k v (Ok tt) g → Taken S s k v g
taken C (small h R) = record { chosen = C; fits = h; reduced = R.comes }

-- the pair that is chosen is of these rows and variables
pub there : (S : Setting) (rows : List Row) (xs : List (List Bool)) {k v : ℕ} → Chosen S (state_of rows xs) k v → Within k (length rows) × Within v S.variables
there S rows xs {k} C = ((C.pair.at_row.0, subst (λ n. k ≤ n) (length-map rows terms_of) C.pair.at_row.1), C.pair.at_variable)

pub left_of : {S : Setting} {rows : List Row} (xs : List (List Bool)) {k v : ℕ} {g : Poly} → Whole S rows → Taken S (state_of rows xs) k v g → Left S (table_of rows) g
left_of {S} {rows} xs {k} {v} W T =
    let w = there S rows xs T.chosen in
    let a = Soundness.reduces_acceptable S W.lawful T.reduced (acceptable (ground_of S W.lawful) S.division rows W.agrees k v w.0 w.1 T.fits) in
    record { acceptable = a.0; irreducible = a.1 }

-- ---- from what becomes of what is left

denied_steps : {S : Setting} {s s' : State} {k v : ℕ} {g : Poly} {d : Refusal} → Chosen S s k v → Fits (prolonged S s k v) → ReducesTo S s most_terms (prolonged S s k v) (left g) → Settles S s g (Err d) s' → Steps S s (denied (told d)) s'
denied_steps C h R (full m) = step_full C h R m

marked_steps : {S : Setting} {s s' : State} {k v : ℕ} {g : Poly} → Chosen S s k v → Fits (prolonged S s k v) → ReducesTo S s most_terms (prolonged S s k v) (left g) → Settles S s g (Ok Nothing) s' → Steps S s marked_answer (with_mark s' k v)
marked_steps C h R nothing = step_mark C h R

appended_steps : {S : Setting} {s s' : State} {k v : ℕ} {g : Poly} → Chosen S s k v → Fits (prolonged S s k v) → ReducesTo S s most_terms (prolonged S s k v) (left g) → Settles S s g (Ok Appended) s' → Steps S s appended_answer s'
appended_steps C h R (appends l) = step_row C h R l

module _ {S : Setting} {s : State} {k v : ℕ} {g : Poly} (T : Taken S s k v g) where
  pub treat_denied : (d : Refusal) (s' : State) → Settles S s g (Err d) s' → Steps S s (denied (told d)) s'
  treat_denied d s' q = denied_steps T.chosen T.fits T.reduced q

  pub treat_appended : (x : Settled) (s' : State) → x ≡ Appended → Settles S s g (Ok x) s' → Steps S s appended_answer s'
  treat_appended x s' e q = appended_steps T.chosen T.fits T.reduced (subst (λ y. Settles S s g (Ok y) s') e q)

  pub treat_marked : (x : Settled) (rows' : List Row) (xs' ys : List (List Bool)) → x ≡ Nothing → Settles S s g (Ok x) (state_of rows' xs') → ((j u : ℕ) → marked ys j u ≡ ((eqb j k && eqb u v) || marked xs' j u)) → Steps S s marked_answer (state_of rows' ys)
  treat_marked x rows' xs' ys e q m =
      let w : with_mark (state_of rows' xs') k v ≡ state_of rows' ys = λ i. record { rows = table_of rows'; marks = λ j u. sym (m j u) i } in
      subst (Steps S s marked_answer) w (marked_steps T.chosen T.fits T.reduced (subst (λ y. Settles S s g (Ok y) (state_of rows' xs')) e q))
