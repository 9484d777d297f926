-- Which numbers stand in the list of primes, and what a search through it finds.
use Rattle.std.specs.Prelude.{◌≡◌, ℕ, zero, suc, ◌+◌, ◌%◌, ◌<◌, ◌≤◌, Bool, true, false, cond, not, ◌||◌, List, [], ◌∷◌, length, drop, ◌==◌, ◌≢◌, nat_le, nat_lt, slice_index, refl}
use Rattle.std.specs.List.{list_any}
use Rattle.std.proofs.Common.{sym, ◌∙◌, ap₂, ⊎_elim, not-suc-le-zero, le_of_suc-le-suc, add-one, arith, drop-cons}
use Rattle.std.proofs.lemmas.Bool.{not-true, not_from_false, ltb-true, leb-true, eqb-false, lt-ltb, le-ltb, eq-eqb, ne_eqb, cases_lt, cases_Bool, cond-true, cond-false}
use Rattle.field.specs.Primes.{stands_in, primes, listed, PrimeUpTo251, ListedAreThePrimes}
use Rattle.field.specs.Computed.{both_parts, both_from, every_below, at_below, every_below_from, every_of, at_of}

-- d is below 2, or does not divide p
abbrev spares : ℕ → ℕ → Bool
spares p d = cond (nat_lt d 2) true (not (p % d == 0))

abbrev prime_test : ℕ → Bool
prime_test p = cond (nat_lt 1 p) (every_below (spares p) p) false

abbrev same : Bool → Bool → Bool
same true b = b
same false b = not b

same_equal : (a b : Bool) → same a b ≡ true → a ≡ b
same_equal true b t = sym t
same_equal false b t = sym (not-true b t)

all_tested : every_below (λ p. same (listed p) (prime_test p)) 252 ≡ true
unfolding listed
all_tested = refl

listed_is_test : (p : ℕ) → p ≤ 251 → listed p ≡ prime_test p
listed_is_test p h = same_equal (listed p) (prime_test p) (at_below (λ p. same (listed p) (prime_test p)) 252 all_tested p (omega arith))

spares_means : (p d : ℕ) → spares p d ≡ true → 2 ≤ d → p % d ≢ 0
spares_means p d t h = eqb-false (p % d) 0 (not-true (p % d == 0) (sym (cond-false (nat_lt d 2) true (not (p % d == 0)) (le-ltb d 2 h)) ∙ t))

spares_from : (p d : ℕ) → (2 ≤ d → p % d ≢ 0) → spares p d ≡ true
spares_from p d ne =
    ⊎_elim
    (λ h. cond-true (nat_lt d 2) true (not (p % d == 0)) (lt-ltb d 2 h))
    (λ h. cond-false (nat_lt d 2) true (not (p % d == 0)) (le-ltb d 2 h) ∙ not_from_false (p % d == 0) (ne_eqb (p % d) 0 (ne h)))
    (cases_lt d 2)

all_small : every_of (λ p. nat_le p 251) primes ≡ true
all_small = refl

listed_small : (p : ℕ) → listed p ≡ true → p ≤ 251
unfolding listed
listed_small p t = leb-true p 251 (at_of (λ p. nat_le p 251) primes all_small p t)

listed_prime : (p : ℕ) → listed p ≡ true → PrimeUpTo251 p
listed_prime p t =
    let small = listed_small p t in
    let parts = both_parts (nat_lt 1 p) (every_below (spares p) p) (sym (listed_is_test p small) ∙ t) in
    (ltb-true 1 p parts.0, small, λ d h below. spares_means p d (at_below (spares p) p parts.1 d below) h)

prime_listed : (p : ℕ) → PrimeUpTo251 p → listed p ≡ true
prime_listed p is =
    listed_is_test p is.1 ∙ both_from (nat_lt 1 p) (every_below (spares p) p) (lt-ltb 1 p is.0) (every_below_from (spares p) p (λ d below. spares_from p d (λ h. is.2 d h below)))

pub listed_are_the_primes : ListedAreThePrimes
listed_are_the_primes p = (listed_prime p, prime_listed p)

pub listed_bounds : (p : ℕ) → listed p ≡ true → (1 < p) × (p < 256)
listed_bounds p t = let is = listed_prime p t in (is.0, omega (arith, is.1))

-- what a search finds stands in the list
pub found_stands : (n : ℕ) (xs : List ℕ) (i : ℕ) → i < length xs → slice_index xs i ≡ n → stands_in n xs ≡ true
found_stands n [] i h e = absurd (not-suc-le-zero h)
found_stands n (x ∷ xs) zero h e = cond-true (n == x) true (stands_in n xs) (eq-eqb n x (sym e))
found_stands n (x ∷ xs) (suc i) h e =
    ⊎_elim
    (λ t. cond-true (n == x) true (stands_in n xs) t)
    (λ f. cond-false (n == x) true (stands_in n xs) f ∙ found_stands n xs i (le_of_suc-le-suc h) e)
    (cases_Bool (n == x))

-- a search goes on past another number
pub passed_over : (n : ℕ) (xs : List ℕ) (i : ℕ) → i < length xs → (slice_index xs i ≢ n) → stands_in n (drop i xs) ≡ stands_in n (drop (i + 1) xs)
passed_over n xs i h ne = rw (add-one, drop-cons xs i 0 h) (cond-false (n == slice_index xs i) true (stands_in n (drop (suc i) xs)) (ne_eqb n (slice_index xs i) (λ e. ne (sym e))))

-- the library's search finds what stands there
same_tests : (a b : ℕ) → (a == b) ≡ (b == a)
same_tests a b = ⊎_elim
    (λ h. ne_eqb a b (λ e. omega (arith, h)) ∙ sym (ne_eqb b a (λ e. omega (arith, h))))
    (λ h. ⊎_elim (λ l. ne_eqb a b (λ e. omega (arith, l)) ∙ sym (ne_eqb b a (λ e. omega (arith, l)))) (λ l. eq-eqb a b (omega arith) ∙ sym (eq-eqb b a (omega arith))) (cases_lt b a))
    (cases_lt a b)

pub stands_any : (n : ℕ) (xs : List ℕ) → list_any (λ x. x == n) xs ≡ stands_in n xs
stands_any n [] = refl
stands_any n (x ∷ xs) = ap₂ (λ s t. s || t) (same_tests x n) (stands_any n xs) ∙ either (n == x)
  where
    either : (t : Bool) → (t || stands_in n xs) ≡ cond t true (stands_in n xs)
    either true = refl
    either false = refl
