-- Walks that never return end: a member cannot be left for ever.
use Rattle.std.proofs.Common.{◌≡◌, ℕ, zero, suc, ◌+◌, ◌<◌, Bool, true, false, cond, eqb, ◌⊎◌, List, length, sym, refl, ap, ◌∙◌, subst, inl, inr, ⊎_elim, arith}
use mathlib.Core.WellFounded.{Acc}
use Rattle.std.proofs.lemmas.Bool.{cases_Bool, cases_eq, eq-eqb, ne_eqb, both_ways}
use Rattle.monomial.specs.Division.{Split, Within, Next, Walk, step, walk}

-- how many of 1 to n are fresh
count : (ℕ → Bool) → ℕ → ℕ
count fresh zero = 0
count fresh (suc n) = cond (fresh (suc n)) 1 0 + count fresh n

without : ℕ → (ℕ → Bool) → ℕ → Bool
without k fresh i = cond (eqb i k) false (fresh i)

without_same : (k : ℕ) (fresh : ℕ → Bool) → without k fresh k ≡ false
unfolding without
without_same k fresh = rw (eq-eqb k k refl)

without_other : (k : ℕ) (fresh : ℕ → Bool) (i : ℕ) → (i ≡ k → ⊥) → without k fresh i ≡ fresh i
unfolding without
without_other k fresh i h = rw (ne_eqb i k h)

count_above : (k : ℕ) (fresh : ℕ → Bool) (n : ℕ) → n < k → count (without k fresh) n ≡ count fresh n
unfolding count
count_above k fresh zero h = refl
count_above k fresh (suc n) h = rw (without_other k fresh (suc n) (λ e. omega arith), count_above k fresh n (omega arith))

count_less : (k : ℕ) (fresh : ℕ → Bool) (n : ℕ) → fresh k ≡ true → Within k n → count fresh n ≡ suc (count (without k fresh) n)
unfolding count
count_less k fresh zero e w = absurd (omega arith)
count_less k fresh (suc n) e w = go (cases_eq (suc n) k) (λ v. count_less k fresh n e v)
  where
    go : (suc n ≡ k) ⊎ (suc n ≡ k → ⊥) → (Within k n → count fresh n ≡ suc (count (without k fresh) n)) → cond (fresh (suc n)) 1 0 + count fresh n ≡ suc (cond (without k fresh (suc n)) 1 0 + count (without k fresh) n)
    go (inl p) ih =
        let f : fresh (suc n) ≡ true = ap fresh p ∙ e in
        let g : without k fresh (suc n) ≡ false = ap (without k fresh) p ∙ without_same k fresh in
        rw (f, g) (omega (arith, count_above k fresh n (omega arith)))
    go (inr p) ih = rw (without_other k fresh (suc n) p) (omega (arith, ih (omega arith)))

module _ (D : Split) (U : List (List ℕ)) (acyclic : (k : ℕ) → Walk D U k k → ⊥) where
  on : {i j k : ℕ} → Walk D U i j → Next D U j k → Walk D U i k
  on (step n) m = walk n (step m)
  on (walk n w) m = walk n (on w m)

  is_fresh : (fresh : ℕ → Bool) (k : ℕ) → ((i : ℕ) → fresh i ≡ false → Walk D U i k) → fresh k ≡ true
  is_fresh fresh k past = ⊎_elim (λ t. t) (λ f. absurd (acyclic k (past k f))) (cases_Bool (fresh k))

  past_on : (fresh : ℕ → Bool) (k j : ℕ) → ((i : ℕ) → fresh i ≡ false → Walk D U i k) → Next D U k j → (i : ℕ) → without k fresh i ≡ false → Walk D U i j
  past_on fresh k j past m i f = ⊎_elim (λ e. subst (λ x. Walk D U x j) (sym e) (step m)) (λ h. on (past i (sym (without_other k fresh i h) ∙ f)) m) (cases_eq i k)

  -- by the number of members where the walk has not been
  ends : (n : ℕ) (fresh : ℕ → Bool) → count fresh (length U) ≡ n → (k : ℕ) → ((i : ℕ) → fresh i ≡ false → Walk D U i k) → Acc (λ j k. Next D U k j) k
  ends zero fresh e k past = Acc.intro k (λ j m. absurd (omega (arith, count_less k fresh (length U) (is_fresh fresh k past) m.from)))
  ends (suc n) fresh e k past = Acc.intro k (λ j m. ends n (without k fresh) (omega (arith, count_less k fresh (length U) (is_fresh fresh k past) m.from)) j (past_on fresh k j past m))

  pub next_wf : (k : ℕ) → Acc (λ j k. Next D U k j) k
  next_wf k = ends (count (λ i. true) (length U)) (λ i. true) refl k (λ i f. absurd (both_ways true f refl))
