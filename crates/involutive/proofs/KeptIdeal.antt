-- The rows of a sheet and the generators that it has accepted have the same ideal, after every call.
use Rattle.std.proofs.Common.{ℕ, ◌-◌, ◌<◌, List, [], ◌∷◌, ◌++◌, sym, refl, subst, ⊎_elim, arith}
use mathlib.Core.List.Memᴰ
use mathlib.Core.List.{Memᴰ}
use Rattle.monomial.specs.Monomial.{one, variable}
use Rattle.polynomial.specs.declared.term.Term.{Term}
use Rattle.polynomial.specs.Polynomial.{Poly, Over, Written}
use Rattle.involutive.specs.Value.{scaled, minus, negated}
use Rattle.involutive.specs.Ideal.{Member, SameIdeal}
use Rattle.involutive.specs.Reduction.{Table, row, Refusal}
use Rattle.involutive.specs.Sheet.{Setting, Lawful, State, prolonged}
use Rattle.involutive.specs.Answers.{Answer, rows_now, denied, Adds, Steps, add_faulty, add_stuck, add_zero, add_full, add_row, step_closed, step_wide, step_stuck, step_mark, step_full, step_row}
use Rattle.involutive.specs.Log.{Call, After, made, added, not_added, stepped, reduced, shown, copied, judged}
use Rattle.involutive.specs.Sound.{Sound}
use Rattle.involutive.specs.Complete.{KeepsIdeal}
use Rattle.involutive.proofs.Monomials
use Rattle.involutive.proofs.Typing.{ground_of, words}
use Rattle.involutive.proofs.Ideals
use Rattle.involutive.proofs.Ideals.{Overs}
use Rattle.involutive.proofs.Soundness
use Rattle.involutive.proofs.Sheets
use Rattle.involutive.proofs.Lists

module _ (S : Setting) (W : Lawful S) where
  open S use {field as F, variables as N, order as O}
  open W use {field as L}
  open words (ground_of S W) use {ground}

  -- the ideal of the rows, and that the generators are polynomials
  pub record Keeps (s : State) (gs : List Poly) : Type 0 where
    pub over : Overs F N gs
    pub same : SameIdeal F N s.rows gs

  alone : (f : Poly) → Over F N f → Overs F N (f ∷ [])
  alone f o g h = subst (Over F N) (sym (Memᴰ.eq_of_singleton h)) o

  only : {gs : List Poly} (f : Poly) → Member F N gs f → (g : Poly) → Memᴰ g (f ∷ []) → Member F N gs g
  only {gs} f m g h = subst (Member F N gs) (sym (Memᴰ.eq_of_singleton h)) m

  last : (gs : List Poly) (f : Poly) → Memᴰ f (gs ++ (f ∷ []))
  last gs f = Memᴰ.append_right gs (Memᴰ.head refl)

  -- n is the monic multiple of g, which becomes a row
  record Divided (g n : Poly) : Type 0 where
    over : Over F N n
    there : (gs : List Poly) → Overs F N gs → Member F N gs g → Member F N gs n
    back : (gs : List Poly) → Overs F N gs → Member F N gs n → Member F N gs g

  divided : {t : Term} {g : Poly} → Written F O N (t ∷ g) → Divided (t ∷ g) (scaled F (F.inv t.coefficient) one (t ∷ g))
  divided {t} {g} w =
      let h : t.coefficient < F.q = (w.over t (Memᴰ.head refl)).0 in
      let p : 0 < t.coefficient = w.nonzero t (Memᴰ.head refl) in
      let b : F.inv t.coefficient < F.q = L.inv_below t.coefficient p h in
      record {
        over = Ideals.over_scaled ground (F.inv t.coefficient) one b Monomials.in_one (t ∷ g) w.over;
        there = λ gs o m. Ideals.member_scaled ground (F.inv t.coefficient) one b Monomials.in_one gs o (t ∷ g) w.over m;
        back = λ gs o m. Ideals.member_unscaled ground t.coefficient p h gs o (t ∷ g) w.over m;
      }

  -- g stands for f, from which it differs by what the rows generate
  exchanged : (R : Table) → Overs F N R → (f g : Poly) → Over F N f → Over F N g → Member F N R (minus F f g) → (n : Poly) → Divided g n → SameIdeal F N (R ++ (n ∷ [])) (R ++ (f ∷ []))
  exchanged R o f g p q m n d =
      let fs : List Poly = R ++ (f ∷ []) in
      let ds : List Poly = R ++ (n ∷ []) in
      let fo : Overs F N fs = Ideals.over_append ground R (f ∷ []) o (alone f p) in
      let dv : Overs F N ds = Ideals.over_append ground R (n ∷ []) o (alone n d.over) in
      let mo : Over F N (minus F f g) = Ideals.over_plus ground f (negated F g) p (Ideals.over_negated ground g q) in
      Ideals.same_ideal ground ds dv fs fo
      (λ h k. ⊎_elim (λ i. Ideals.member_generator ground fs fo h (Memᴰ.append_left (f ∷ []) i))
      (λ i. only n (d.there fs fo (Ideals.member_back ground fs fo f p g q (Ideals.member_wider ground R o (f ∷ []) (alone f p) _ mo m) (Ideals.member_generator ground fs fo f (last R f)))) h i) (Memᴰ.append_cases R k))
      (λ h k. ⊎_elim (λ i. Ideals.member_generator ground ds dv h (Memᴰ.append_left (n ∷ []) i))
      (λ i. only f (Ideals.member_from ground ds dv f p g q (Ideals.member_wider ground R o (n ∷ []) (alone n d.over) _ mo m) (d.back ds dv (Ideals.member_generator ground ds dv n (last R n)))) h i) (Memᴰ.append_cases R k))

  adds : {s s' : State} {gs : List Poly} {f : Poly} {n : ℕ} → Keeps s gs → Sound S s → Adds S s f (rows_now n) s' → Keeps s' (gs ++ (f ∷ []))
  adds {s} {gs = gs} {f = f} I so (add_zero e r) =
      let w = (Soundness.no_fault S W f e).written in
      let o = Sheets.rows_over S W so in
      let m : Member F N s.rows f = Ideals.member_from ground s.rows o f w.over [] (λ t h. elim h [ ]) (Sheets.reduced_member S W so f [] w r) (Ideals.member_zero ground s.rows o) in
      record {
        over = Ideals.over_append ground gs (f ∷ []) I.over (alone f w.over);
        same = Ideals.chain ground I.same (Ideals.same_append ground gs I.over (f ∷ []) (alone f w.over) (only f ((I.same f w.over).0 m)));
      }
  adds {s} {gs = gs} {f = f} I so (add_row {t = t} {g = g} e r l) =
      let w = (Soundness.no_fault S W f e).written in
      let v = (Soundness.reduces_written S W r w (t ∷ g) refl).0 in
      let o = Sheets.rows_over S W so in
      record {
        over = Ideals.over_append ground gs (f ∷ []) I.over (alone f w.over);
        same = Ideals.chain ground (exchanged s.rows o f (t ∷ g) w.over v.over (Sheets.reduced_member S W so f (t ∷ g) w r) (scaled F (F.inv t.coefficient) one (t ∷ g)) (divided v)) (Ideals.same_more ground s.rows o gs I.over (f ∷ []) (alone f w.over) I.same);
      }

  steps : {s s' : State} {gs : List Poly} {a : Answer} → Keeps s gs → Sound S s → Steps S s a s' → Keeps s' gs
  steps I so (step_closed c) = I
  steps I so (step_wide c f) = I
  steps I so (step_stuck c f r) = I
  steps I so (step_mark c f r) = record { over = I.over; same = I.same }
  steps I so (step_full c f r l) = I
  steps {s} I so (step_row {k = k} {v = v} {t = t} {g = g} c f r l) =
      let w = Soundness.prolonged_written S W so k v c.pair.at_variable in
      let u = (Soundness.reduces_written S W r w (t ∷ g) refl).0 in
      let o = Sheets.rows_over S W so in
      let d = divided u in
      let n : Poly = scaled F (F.inv t.coefficient) one (t ∷ g) in
      let p : Member F N s.rows (prolonged S s k v) = Ideals.member_scaled ground 1 (variable v) L.differ (Monomials.in_variable c.pair.at_variable) s.rows o (row s.rows k) (Soundness.row_written S W so k).over
      (Ideals.member_generator ground s.rows o (row s.rows k) (Lists.entry_member [] s.rows (k - 1) (omega (arith, c.pair.at_row.0, c.pair.at_row.1)))) in
      let m : Member F N s.rows n = d.there s.rows o (Ideals.member_back ground s.rows o (prolonged S s k v) w.over (t ∷ g) u.over (Sheets.reduced_member S W so (prolonged S s k v) (t ∷ g) w r) p) in
      record { over = I.over; same = Ideals.chain ground (Ideals.turned ground (Ideals.same_append ground s.rows o (n ∷ []) (alone n d.over) (only n m))) I.same }

  not_adds : {s s' : State} {gs : List Poly} {f : Poly} {r : Refusal} → Keeps s gs → Adds S s f (denied r) s' → Keeps s' gs
  not_adds I (add_faulty e) = I
  not_adds I (add_stuck e r) = I
  not_adds I (add_full e r m) = I

  pub keeps : {calls : List Call} {s : State} {gs : List Poly} → After S calls s gs → Keeps s gs
  keeps made = record { over = λ p h. elim h [ ]; same = λ f o. (λ m. m, λ m. m) }
  keeps (added a h) = adds (keeps a) (Soundness.sound S W a) h
  keeps (not_added a h) = not_adds (keeps a) h
  keeps (stepped a h) = steps (keeps a) (Soundness.sound S W a) h
  keeps (reduced a h) = keeps a
  keeps (shown a h) = keeps a
  keeps (copied a h) = keeps a
  keeps (judged a h) = keeps a

  pub keeps_ideal : KeepsIdeal S
  keeps_ideal calls s gs a = (keeps a).same
