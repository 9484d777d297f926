-- The verdict of a closed sheet: 1 is a member exactly when a row's leading monomial is 1.
use Rattle.std.proofs.Common.{◌≡◌, ℕ, zero, suc, ◌-◌, ◌≤◌, ◌↔◌, ◌⊎◌, true, List, [], ◌∷◌, length, get_or, refl, ap, ◌∙◌, subst, inl, inr, ⊎_elim, arith}
use mathlib.Core.List.Memᴰ
use mathlib.Core.List.{Memᴰ}
use lib.ListN.{length-map}
use Rattle.std.proofs.Math.Logic.{∥∥₁_elim}
use Rattle.std.proofs.Props.{props}
use Rattle.std.proofs.lemmas.Bool.{both_ways, cases_Bool, cases_eq}
use Rattle.std.proofs.lemmas.List.{get_or-map}
use Rattle.polynomial.specs.declared.term.Term.{Term}
use Rattle.monomial.specs.Monomial.{In, Wide, one, same, Divides}
use Rattle.monomial.specs.Order.{Under}
use Rattle.monomial.specs.Division.{Within}
use Rattle.polynomial.specs.Polynomial.{Poly, term, exponents, Written, Falling, single, more, leading}
use Rattle.involutive.specs.Value.{unit}
use Rattle.involutive.specs.Ideal.{Member}
use Rattle.involutive.specs.Reduction.{row}
use Rattle.involutive.specs.Sheet.{Setting, State, Closed, Lawful}
use Rattle.involutive.specs.Answers.{Judges, verdict_answer, impossible, possible}
use Rattle.monomial.specs.Places.{agree_all, beyond, low}
use Rattle.involutive.specs.Complete.{UnitRow}
use Rattle.involutive.proofs.Monomials
use Rattle.involutive.proofs.Typing.{ground_of, words}
use Rattle.involutive.proofs.Ideals
use Rattle.involutive.proofs.Soundness
use Rattle.involutive.specs.Sound.{Row, Sound}
use Rattle.involutive.proofs.Sheets
use Rattle.involutive.proofs.WrittenLists
use Rattle.involutive.proofs.Lists

module _ (S : Setting) (W : Lawful S) where
  open S use {field as F, variables as N, order as O}
  open W use {field as L}
  open words (ground_of S W) use {ground}

  pub unit_written : Written F O N unit
  unit_written = record {
    over = λ t h. rw (Memᴰ.eq_of_singleton h) (L.differ, Monomials.in_one);
    nonzero = λ t h. rw (Memᴰ.eq_of_singleton h) (omega arith);
    falling = single;
  }

  divides_one : (m : List ℕ) → Wide m → Divides m one → m ≡ one
  divides_one m w d = agree_all m one w (λ i l. let x : get_or m i 0 ≤ get_or one i 0 = rw (low i) at (d (suc i)) in omega (arith, Monomials.zeros 6 i))

  -- nothing stands below 1
  least : (m : List ℕ) → Wide m → Under O m one → ⊥
  least m w h = go (Monomials.same? {n = 6} (m, wide_in) Monomials.unit)
    where
      wide_in : In 6 m
      wide_in = record { wide = w; absent = λ v l. beyond m (v - 1) (omega (arith, w)) }

      go : Dec (◌≡◌ {A = Monomials.Mono 6} (m, wide_in) Monomials.unit) → ⊥
      go (yes e) = let x : Under O one one = subst (λ y. Under O y.0 one) e h in WrittenLists.under_asym W.order one one refl refl x x
      go (no n) = WrittenLists.under_asym W.order m one w refl h (W.order.least m w (λ e. n (Monomials.mono_eq e)))

  -- a monic polynomial whose leading monomial is 1 is 1
  monic_unit : (p : Poly) → Row S p → leading p ≡ one → p ≡ unit
  monic_unit [] r e = absurd (omega (arith, r.monic))
  monic_unit (h ∷ t) r e = go h t r.monic e r.acceptable.written
    where
      go : (h : Term) (t : Poly) → h.coefficient ≡ 1 → exponents h ≡ one → Written F O N (h ∷ t) → h ∷ t ≡ unit
      go h [] c d w = λ i. record { coefficient = c i; monomial = record { exponents = d i } } ∷ []
      go h (s ∷ t) c d w = absurd (least (exponents s) (w.over s (Memᴰ.tail (Memᴰ.head refl))).1.wide (subst (Under O (exponents s)) d (fall w.falling)))
        where
          fall : {h s : Term} {t : Poly} → Falling O (h ∷ s ∷ t) → Under O (exponents s) (exponents h)
          fall (more x y) = x

  pub sound_verdict : (s : State) → Sound S s → Closed S s → Member F N s.rows unit ↔ UnitRow s
  sound_verdict s I c = (
    λ m.
        let r = Sheets.lead_divisor S W s I c (term 1 one) [] unit_written m in
        let w : Within r.0 (length s.rows) = rw (length-map s.rows leading) at r.1.within in
        record { k = r.0; within = w; leads = divides_one (leading (row s.rows r.0)) (Soundness.row_wide S W I r.0) (subst (λ x. Divides x one) (get_or-map leading s.rows (r.0 - 1) [] [] (omega arith)) r.1.divides) },
    λ u.
        let h : Memᴰ (row s.rows u.k) s.rows = Lists.entry_member [] s.rows (u.k - 1) (omega (arith, u.within.0, u.within.1)) in
        subst (Member F N s.rows) (monic_unit (row s.rows u.k) (I.each _ h) u.leads) (Ideals.member_generator ground s.rows (λ p k. (I.each p k).acceptable.written.over) (row s.rows u.k) h),
  )

  -- what a program may answer after it has looked at every row
  pub judges_row : (s : State) → Sound S s → Closed S s → UnitRow s → Judges S s (verdict_answer 1)
  judges_row s I c u = impossible c ((sound_verdict s I c).1 u)

  pub judges_none : (s : State) → Sound S s → Closed S s → ((k : ℕ) → Within k (length s.rows) → leading (row s.rows k) ≡ one → ⊥) → Judges S s (verdict_answer 0)
  judges_none s I c n = possible c (λ m. let u = (sound_verdict s I c).0 m in n u.k u.within u.leads)

  -- a row among the first n whose leading monomial is 1, or that there is none
  find_unit : (s : State) (n : ℕ) → n ≤ length s.rows → UnitRow s ⊎ ((k : ℕ) → Within k n → leading (row s.rows k) ≡ one → ⊥)
  find_unit s zero l = inr (λ k w e. absurd (omega (arith, w.0, w.1)))
  find_unit s (suc n) l =
      let m = leading (row s.rows (suc n)) in
      ⊎_elim inl (λ none. ⊎_elim
      (λ e. inl (record { k = suc n; within = (omega arith, l); leads = Monomials.same_true m one e }))
      (λ e. inr (λ k w d. ⊎_elim
      (λ q. both_ways (same m one) e (subst (λ j. same (leading (row s.rows j)) one ≡ true) q (ap (λ x. same x one) d ∙ Monomials.same_refl one)))
      (λ q. none k (w.0, omega (arith, w.1, q)) d)
      (cases_eq k (suc n))))
      (cases_Bool (same m one)))
      (find_unit s n (omega arith))

  -- it is enough that a proof of soundness exists: what is taken from it are equations, bounds and contradictions
  pub verdict : (s : State) → ∥ Sound S s ∥₁ → Closed S s → Member F N s.rows unit ↔ UnitRow s
  verdict s I c = (
    λ m. ⊎_elim (λ u. u) (λ none. absurd (∥∥₁_elim I (hlevel props) (λ A. let u = (sound_verdict s A c).0 m in none u.k u.within u.leads))) (find_unit s (length s.rows) (omega arith)),
    λ u.
        let h : Memᴰ (row s.rows u.k) s.rows = Lists.entry_member [] s.rows (u.k - 1) (omega (arith, u.within.0, u.within.1)) in
        let is : row s.rows u.k ≡ unit = ∥∥₁_elim I (hlevel props) (λ A. monic_unit (row s.rows u.k) (A.each _ h) u.leads) in
        subst (Member F N s.rows) is (Ideals.member_generator ground s.rows (λ p k. ∥∥₁_elim I (hlevel props) (λ A. (A.each p k).acceptable.written.over)) (row s.rows u.k) h),
  )
