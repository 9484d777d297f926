-- No marks, in a list of lists.
use Rattle.std.proofs.Common.{◌≡◌, ℕ, ◌-◌, Bool, true, false, ◌&&◌, ltb, [], get_or, replicate, refl, ap, ◌∙◌, ⊎_elim, arith}
use lib.ListN.{length-replicate}
use Rattle.std.proofs.lemmas.List.{get_or-replicate, get_or_past}
use Rattle.std.proofs.lemmas.Bool.{cases_lt}
use Rattle.sheet.specs.Marks.{marked}

none_at : (i j : ℕ) → get_or (get_or (replicate 32 (replicate 6 false)) i []) j false ≡ false
none_at i j = ⊎_elim
    (λ h. ap (λ x. get_or x j false) (get_or-replicate 32 i (replicate 6 false) [] h) ∙ inner)
    (λ h. ap (λ x. get_or x j false) (get_or_past (replicate 32 (replicate 6 false)) i [] (omega (arith, length-replicate 32 (replicate 6 false))))) (cases_lt i 32)
  where
    inner : get_or (replicate 6 false) j false ≡ false
    inner = ⊎_elim (λ h. get_or-replicate 6 j false false h) (λ h. get_or_past (replicate 6 false) j false (omega (arith, length-replicate 6 false))) (cases_lt j 6)

both_false : (a b : Bool) → (a && (b && false)) ≡ false
both_false true true = refl
both_false true false = refl
both_false false b = refl

pub none_marked : (k v : ℕ) → marked (replicate 32 (replicate 6 false)) k v ≡ false
none_marked k v = ap (λ b. ltb 0 k && (ltb 0 v && b)) (none_at (k - 1) (v - 1)) ∙ both_false (ltb 0 k) (ltb 0 v)
