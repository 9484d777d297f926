-- Whether a sheet is closed, from what stands open in the queue; and its verdict, from the rows' leading monomials.
use Rattle.std.proofs.Common.{◌≡◌, ℕ, zero, suc, ◌-◌, ◌<◌, ◌≤◌, Bool, true, false, ◌||◌, List, [], ◌∷◌, length, get_or, map, Result, sym, refl, ap, ◌∙◌, subst, ⊎_elim, arith}
use lib.ListN.{length-map}
use Rattle.std.proofs.lemmas.List.{get_or_read}
use Rattle.std.proofs.lemmas.Bool.{both_ways, or_cases}
use Rattle.monomial.specs.Monomial.{one, same}
use Rattle.polynomial.specs.Polynomial.{leading}
use Rattle.involutive.specs.Sheet.{Setting, State, Closed, Chosen}
use Rattle.involutive.specs.Sound.{Sound}
use Rattle.involutive.specs.Answers.{Judges, verdict_answer, impossible, possible, FairCopies}
use Rattle.calls.specs.declared.refusal.Refusal.{Refusal}
use Rattle.calls.specs.declared.answer.Copied.{Copied}
use Rattle.calls.specs.Told.{copied}
use Rattle.involutive.proofs.Monomials.{same_true, same_refl}
use Rattle.involutive.proofs.Verdicts
use Rattle.reduction.specs.declared.table.Row.{Row}
use Rattle.reduction.specs.Table.{terms_of, table_of}
use Rattle.sheet.specs.declared.queue.Pick.{Pick}
use Rattle.sheet.specs.Marks.{state_of}
use Rattle.sheet.specs.Queueing.{no_pick, Passed, Waits, Queued}
use Rattle.sheet.specs.Rows.{lead_of}
use Rattle.sheet.specs.Units.{has_unit}
use Rattle.sheet.proofs.Whole.{Whole}
use Rattle.sheet.proofs.Choosings
use Rattle.reduction.proofs.Mapping.{map_at, element}

-- a row that leads with 1
record UnitAt (rows : List Row) : Type 0 where
  at : ℕ
  it : Row
  inside : at < length rows
  is : it ≡ get_or rows at it
  leads : lead_of it ≡ one

unit_at : (rows : List Row) → has_unit rows ≡ true → UnitAt rows
unit_at [] e = absurd (both_ways false refl e)
unit_at (r ∷ rows) e = ⊎_elim
    (λ h. record { at = 0; it = r; inside = omega arith; is = refl; leads = same_true (lead_of r) one h })
    (λ t. let u = unit_at rows t in let l = u.inside in record { at = suc u.at; it = u.it; inside = omega (arith, l); is = u.is; leads = u.leads })
    (or_cases (same (lead_of r) one) (has_unit rows) e)

or_right : (a b : Bool) → b ≡ true → (a || b) ≡ true
or_right true b e = refl
or_right false b e = e

at_unit : (rows : List Row) (i : ℕ) (r : Row) → i < length rows → r ≡ get_or rows i r → lead_of r ≡ one → has_unit rows ≡ true
at_unit [] i r h e l = absurd (omega (arith, h))
at_unit (x ∷ rows) zero r h e l = ap (λ b. b || has_unit rows) (ap (λ y. same (lead_of y) one) (sym e) ∙ ap (λ m. same m one) l ∙ same_refl one)
at_unit (x ∷ rows) (suc i) r h e l = or_right (same (lead_of x) one) (has_unit rows) (at_unit rows i r (omega (arith, h)) e l)

module _ {S : Setting} {rows : List Row} (W : Whole S rows) (xs : List (List Bool)) where
  abbrev s : State
  s = state_of rows xs

  -- ---- what stands open in the queue

  module _ {picks : List Pick} (K : Queued S.order S.variables (map lead_of rows) picks) where
    -- p is what reading the queue at place i gives
    pub chosen_some : (i : ℕ) (p : Pick) → Passed rows xs picks i → Waits rows xs picks i → p ≡ get_or picks i p → Chosen S s p.row p.variable
    chosen_some i p P w e = subst (λ q. Chosen S s q.row q.variable) (sym (get_or_read picks i p w.0 e no_pick)) (Choosings.waits_chosen S W.lawful.order W.lawful.variables.1 rows xs W.agrees picks K i P w)

    pub is_closed : {n : ℕ} → n ≡ length picks → Passed rows xs picks n → Closed S s
    is_closed e P = Choosings.passed_closed S W.lawful.order W.lawful.variables.1 rows xs W.agrees picks K (subst (Passed rows xs picks) e P)

    pub is_open : (i : ℕ) → Waits rows xs picks i → Closed S s → ⊥
    is_open = Choosings.waits_open S W.lawful.order W.lawful.variables.1 rows xs W.agrees picks K

  -- ---- the verdict

  rows_there : length (table_of rows) ≡ length rows
  rows_there = length-map rows terms_of

  module _ (c : Closed S s) (I : ∥ Sound S s ∥₁) {slice : List Row} (e : slice ≡ rows) where
    pub verdict_one : true ≡ has_unit slice → Judges S s (verdict_answer 1)
    verdict_one h =
        let u = unit_at rows (sym (h ∙ ap has_unit e)) in
        let l = u.inside in
        let z : suc u.at - 1 ≡ u.at = omega arith in
        impossible c ((Verdicts.verdict S W.lawful s I c).1 (record {
          k = suc u.at;
          within = (omega arith, subst (λ n. suc u.at ≤ n) (sym rows_there) (omega (arith, l)));
          leads = ap (λ i. leading (get_or (table_of rows) i [])) z ∙ ap leading (map_at terms_of rows u.at u.it [] l u.is) ∙ sym (W.agrees.each u.at u.it l u.is).lead ∙ u.leads;
        }))

    pub verdict_zero : false ≡ has_unit slice → Judges S s (verdict_answer 0)
    verdict_zero h = possible c (λ q.
        let n = (Verdicts.verdict S W.lawful s I c).0 q in
        let l : n.k ≤ length rows = subst (λ z. n.k ≤ z) rows_there n.within.1 in
        let o = n.within.0 in
        let m : n.k - 1 < length rows = omega (arith, l, o) in
        let x = element rows (n.k - 1) m in
        both_ways (has_unit rows) (sym (h ∙ ap has_unit e)) (at_unit rows (n.k - 1) x.0 m x.1 ((W.agrees.each (n.k - 1) x.0 m x.1).lead ∙ sym (ap leading (map_at terms_of rows (n.k - 1) x.0 [] m x.1)) ∙ n.leads)))

  -- ---- the fair copy

  pub copied_rows : {slice : List Row} (out : List ℕ) (r : Result Copied Refusal) (out' : List ℕ) → slice ≡ rows → Closed S s →
      (Closed S (state_of slice xs) → FairCopies S (state_of slice xs) out (copied r) out') → FairCopies S s out (copied r) out'
  copied_rows out r out' e c f = subst (λ x. Closed S (state_of x xs) → FairCopies S (state_of x xs) out (copied r) out') e f c
