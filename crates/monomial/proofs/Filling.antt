-- An array whose members are made one by one of their places.
use Rattle.std.proofs.Common.{◌≡◌, ℕ, zero, suc, ◌+◌, ◌<◌, ◌≤◌, List, get_or, ap, ◌∙◌, subst, sym, ⊎_elim, arith}
use Rattle.std.proofs.lemmas.Bool.{cases_lt}
use Rattle.std.specs.Fn.{Called}
use Rattle.std.specs.Array.{IsFromFnResult, IsFromFnResultFrom}
use denote.Param.Members.{Mut}

module _ {F : Type 0} (g : Mut F (ℕ × Unit {0}) ℕ) (f : F) (ys : List ℕ) (h : ℕ → ℕ) (calls : (i y : ℕ) (q : F) → Called g f (i, tt) y q → (q ≡ f) × (y ≡ h i)) where
  from_place : (n i : ℕ) (p : F) → p ≡ f → IsFromFnResultFrom g p ys i n → (k : ℕ) → i ≤ k → k < i + n → get_or ys k 0 ≡ h k
  from_place zero i p e made k l m = absurd (omega arith)
  from_place (suc n) i p e (q, y, at, called, more) k l m =
      let here = calls i y q (subst (λ s. Called g s (i, tt) y q) e called) in
      ⊎_elim
      (λ less. from_place n (i + 1) q here.0 more k (omega arith) (omega arith))
      (λ last. let same : k ≡ i = omega arith in ap (λ j. get_or ys j 0) same ∙ at.1 0 ∙ here.1 ∙ ap h (sym same))
      (cases_lt i k)

  pub filled : (n : ℕ) → IsFromFnResult g f ys n → (k : ℕ) → k < n → get_or ys k 0 ≡ h k
  filled n made k l = from_place n 0 f (λ _. f) made.each k (omega arith) (omega arith)
