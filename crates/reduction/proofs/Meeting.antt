-- Adding up, one term s of the multiple at a time: the terms above it are copied, and then it is met.
use Rattle.std.proofs.Common.{◌≡◌, ℕ, zero, suc, ◌<◌, ◌≤◌, [], ◌∷◌, ◌++◌, length, get_or, take, drop, Less, Equal, arith}
use Rattle.field.specs.Field.{FieldMeaning}
use Rattle.monomial.specs.Order.{Compare}
use Rattle.polynomial.specs.declared.term.Term.{Term}
use Rattle.polynomial.specs.Polynomial.{Poly, term, exponents}
use Rattle.reduction.specs.Merging.{Sums, Above, code_sum, right_only, left_first, right_first, together, cancelled}

module _ (F : FieldMeaning) (O : Compare) (s : Term) where
  above_tail : (t : Term) (h : Poly) (k : ℕ) → Above O s (t ∷ h) (suc k) → Above O s h k
  above_tail t h k a i d l = a (suc i) d (omega arith)

  pub copied : (h : Poly) (k : ℕ) → Above O s h k → k ≤ length h → (f g : Poly) → Sums F O (drop k h) (s ∷ f) g → Sums F O h (s ∷ f) (take k h ++ g)
  copied h zero a l f g r = r
  copied [] (suc k) a l f g r = absurd (omega arith)
  copied (t ∷ h) (suc k) a l f g r = left_first (a 0 t (omega arith)) (copied h k (above_tail t h k a) (omega arith) f g r)

  -- no term has its monomial
  pub met_alone : (h : Poly) (k : ℕ) → Above O s h k → k ≤ length h → (k < length h → (d : Term) → O (exponents (get_or h k d)) (exponents s) ≡ Less) → (f g : Poly) → Sums F O (drop k h) f g → Sums F O h (s ∷ f) ((take k h ++ s ∷ []) ++ g)
  met_alone [] zero a l b f g r = right_only r
  met_alone [] (suc k) a l b f g r = absurd (omega arith)
  met_alone (t ∷ h) zero a l b f g r = right_first (b (omega arith) t) r
  met_alone (t ∷ h) (suc k) a l b f g r = left_first (a 0 t (omega arith)) (met_alone h k (above_tail t h k a) (omega arith) (λ m. b (omega arith)) f g r)

  -- the term with its monomial cancels it
  pub met_gone : (h : Poly) (k : ℕ) → Above O s h k → k < length h → ((d : Term) → O (exponents (get_or h k d)) (exponents s) ≡ Equal) → (d : Term) → code_sum F (get_or h k d).coefficient s.coefficient ≡ 0 → (f g : Poly) → Sums F O (drop (suc k) h) f g → Sums F O h (s ∷ f) (take k h ++ g)
  met_gone [] k a l b d z f g r = absurd (omega arith)
  met_gone (t ∷ h) zero a l b d z f g r = cancelled (b t) z r
  met_gone (t ∷ h) (suc k) a l b d z f g r = left_first (a 0 t (omega arith)) (met_gone h k (above_tail t h k a) (omega arith) b d z f g r)

  -- the two make one term
  pub met_both : (h : Poly) (k : ℕ) → Above O s h k → k < length h → ((d : Term) → O (exponents (get_or h k d)) (exponents s) ≡ Equal) → (d : Term) → 0 < code_sum F (get_or h k d).coefficient s.coefficient → (f g : Poly) → Sums F O (drop (suc k) h) f g
      → Sums F O h (s ∷ f) ((take k h ++ term (code_sum F (get_or h k d).coefficient s.coefficient) (exponents (get_or h k d)) ∷ []) ++ g)
  met_both [] k a l b d z f g r = absurd (omega arith)
  met_both (t ∷ h) zero a l b d z f g r = together (b t) z r
  met_both (t ∷ h) (suc k) a l b d z f g r = left_first (a 0 t (omega arith)) (met_both h k (above_tail t h k a) (omega arith) b d z f g r)
