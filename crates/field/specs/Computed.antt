-- Tests that are computed: at each number below a limit, and at each number of a list.
use Rattle.std.specs.Prelude.{◌≡◌, ℕ, zero, suc, ◌<◌, Bool, true, false, cond, List, [], ◌∷◌, ◌==◌, refl}
use Rattle.std.proofs.Common.{sym, subst, ◌∙◌, ⊎_elim, not-suc-le-zero, arith}
use Rattle.std.proofs.lemmas.Bool.{false≢true, eqb-true, cases_eq, cases_Bool, cond-false}
use Rattle.field.specs.Primes.{stands_in}

pub both_parts : (a b : Bool) → cond a b false ≡ true → (a ≡ true) × (b ≡ true)
both_parts true b t = (refl, t)
both_parts false b t = absurd (false≢true t)

pub both_from : (a b : Bool) → a ≡ true → b ≡ true → cond a b false ≡ true
both_from true b ta tb = tb
both_from false b ta tb = ta

abbrev pub every_below : (ℕ → Bool) → ℕ → Bool
every_below f zero = true
every_below f (suc k) = cond (f k) (every_below f k) false

pub at_below : (f : ℕ → Bool) (n : ℕ) → every_below f n ≡ true → (k : ℕ) → k < n → f k ≡ true
at_below f zero t k h = absurd (not-suc-le-zero h)
at_below f (suc n) t k h =
    let parts = both_parts (f n) (every_below f n) t in
    ⊎_elim (λ e. subst (λ (x : ℕ). f x ≡ true) (sym e) parts.0) (λ ne. at_below f n parts.1 k (omega arith)) (cases_eq k n)

pub every_below_from : (f : ℕ → Bool) (n : ℕ) → ((k : ℕ) → k < n → f k ≡ true) → every_below f n ≡ true
every_below_from f zero all = refl
every_below_from f (suc n) all = both_from (f n) (every_below f n) (all n (omega arith)) (every_below_from f n (λ k h. all k (omega arith)))

abbrev pub every_of : (ℕ → Bool) → List ℕ → Bool
every_of f [] = true
every_of f (x ∷ xs) = cond (f x) (every_of f xs) false

pub at_of : (f : ℕ → Bool) (xs : List ℕ) → every_of f xs ≡ true → (n : ℕ) → stands_in n xs ≡ true → f n ≡ true
at_of f [] t n h = absurd (false≢true h)
at_of f (x ∷ xs) t n h =
    let parts = both_parts (f x) (every_of f xs) t in
    ⊎_elim
    (λ e. subst (λ (y : ℕ). f y ≡ true) (sym (eqb-true n x e)) parts.0)
    (λ e. at_of f xs parts.1 n (sym (cond-false (n == x) true (stands_in n xs) e) ∙ h))
    (cases_Bool (n == x))
