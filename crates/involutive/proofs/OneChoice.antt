-- The pair that a step treats is one, and so are the rows that a fair copy takes.
use Rattle.std.proofs.Common.{◌≡◌, ℕ, ◌-◌, ◌≤◌, ◌⊎◌, List, get_or, sym, ap, ◌∙◌, subst, inl, inr, ⊎_elim, arith}
use Rattle.std.proofs.lemmas.Bool.{cases_eq}
use Rattle.monomial.specs.Places.{length_times}
use Rattle.monomial.specs.Divisions.{at_variable, at_others, wide_variable}
use Rattle.monomial.specs.Monomial.{Wide, width, variable, times}
use Rattle.monomial.specs.Order.{Under}
use Rattle.monomial.specs.Division.{Within}
use Rattle.polynomial.specs.Polynomial.{leading}
use Rattle.involutive.specs.Reduction.{row}
use Rattle.involutive.specs.Sheet.{Setting, State, Chosen, height, Lawful}
use Rattle.involutive.specs.Answers.{Selection}
use Rattle.involutive.proofs.Monomials
use Rattle.involutive.proofs.Lists
use Rattle.involutive.proofs.Soundness
use Rattle.involutive.specs.Sound.{Sound}
use Rattle.involutive.proofs.WrittenLists

variable_one : (v u : ℕ) → Within v width → Within u width → variable v ≡ variable u → v ≡ u
variable_one v u a b e = ⊎_elim (λ d. omega arith)
    (λ d.
    let x : get_or (variable v) (v - 1) 0 ≡ 1 = at_variable v a in
    let y : get_or (variable u) (v - 1) 0 ≡ 0 = at_others u (v - 1) d in
    let z : get_or (variable v) (v - 1) 0 ≡ get_or (variable u) (v - 1) 0 = ap (λ m. get_or m (v - 1) 0) e in
    absurd (omega arith))
    (cases_eq (v - 1) (u - 1))

module _ (S : Setting) (W : Lawful S) (s : State) (I : Sound S s) where
  open S use {order as O}

  pub chosen_one : {k v j u : ℕ} → Chosen S s k v → Chosen S s j u → (k ≡ j) × (v ≡ u)
  chosen_one {k} {v} {j} {u} a b = go (a.smallest j u b.pair b.unmarked) (b.smallest k v a.pair a.unmarked)
    where
      wide_height : (k v : ℕ) → Wide (height s k v)
      wide_height k v = length_times (variable v) (leading (row s.rows k)) (wide_variable v ∙ sym (Soundness.row_wide S W I k)) ∙ Soundness.row_wide S W I k

      go : Under O (height s k v) (height s j u) ⊎ ((height s k v ≡ height s j u) × (k ≤ j)) → Under O (height s j u) (height s k v) ⊎ ((height s j u ≡ height s k v) × (j ≤ k)) → (k ≡ j) × (v ≡ u)
      go (inl x) (inl y) = absurd (WrittenLists.under_asym W.order (height s k v) (height s j u) (wide_height k v) (wide_height j u) x y)
      go (inl x) (inr y) = absurd (let z : Under O (height s k v) (height s k v) = subst (Under O (height s k v)) y.0 x in WrittenLists.under_asym W.order (height s k v) (height s k v) (wide_height k v) (wide_height k v) z z)
      go (inr x) (inl y) = absurd (let z : Under O (height s j u) (height s j u) = subst (Under O (height s j u)) x.0 y in WrittenLists.under_asym W.order (height s j u) (height s j u) (wide_height j u) (wide_height j u) z z)
      go (inr x) (inr y) =
          let e : k ≡ j = omega arith in
          let m : List ℕ = leading (row s.rows j) in
          let w : Wide m = Soundness.row_wide S W I j in
          let d : times m (variable v) ≡ times m (variable u) = Monomials.times_comm m (variable v) ∙ ap (λ i. times (variable v) (leading (row s.rows i))) (sym e) ∙ x.0 ∙ Monomials.times_comm (variable u) m in
          let c : variable v ≡ variable u = sym (Monomials.quotient_times m (variable v) (w ∙ sym (wide_variable v))) ∙ ap (λ n. Rattle.monomial.specs.Monomial.quotient n m) d ∙ Monomials.quotient_times m (variable u) (w ∙ sym (wide_variable u)) in
          (e, variable_one v u (a.pair.at_variable.0, omega (arith, a.pair.at_variable.1, W.variables.1)) (b.pair.at_variable.0, omega (arith, b.pair.at_variable.1, W.variables.1)) c)

  pub selection_one : {ks js : List ℕ} → Selection S s ks → Selection S s js → ks ≡ js
  selection_one a b = Lists.up_eq (λ j k. Under O (leading (row s.rows j)) (leading (row s.rows k))) (λ j k. WrittenLists.under_asym W.order (leading (row s.rows j)) (leading (row s.rows k)) (Soundness.row_wide S W I j) (Soundness.row_wide S W I k))
      (Soundness.rising_up S W I a.rising) (Soundness.rising_up S W I b.rising) (λ k h. (b.minimal k).1 ((a.minimal k).0 h)) (λ k h. (a.minimal k).1 ((b.minimal k).0 h))
