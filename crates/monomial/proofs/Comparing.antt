-- Comparing two lists of exponents: as the library compares lists, and as the numbers that they spell.
use Rattle.std.proofs.Common.{◌≡◌, ℕ, suc, ◌+◌, ◌-◌, ◌*◌, ◌<◌, ◌≤◌, List, [], ◌∷◌, reverse, length, refl, sym, ap₂, ◌∙◌, ⊎_elim, arith}
use Rattle.std.proofs.lemmas.List.{length-reverse, get_or-reverse, get_or_past}
use Rattle.std.proofs.lemmas.Bool.{lt-ltb, le-ltb, eq-eqb, ne_eqb, cases_lt}
use Rattle.std.specs.declared.cmp.Ordering.{Ordering}
use Rattle.std.specs.Ordering.{ordering_reverse, ordering_then, nat_cmp}
use Rattle.std.specs.Cmp.Lexicographic.{slice_cmp}
use Rattle.monomial.specs.Monomial.{Wide}
use Rattle.monomial.specs.Digits.{Digits, spelled_after, spelled}
use Rattle.monomial.specs.Order.{numbers, lexicographic}
use Rattle.monomial.specs.Orders.{Compared, less, equal, greater, compared as ordered, alike, lexicographic_laws}

-- two numbers with a digit added to each: the numbers decide, and then the digits
with_digits : {x y d e : ℕ} {o p : Ordering} → d < 256 → e < 256 → Compared x y o → Compared d e p → Compared (x * 256 + d) (y * 256 + e) (ordering_then o p)
with_digits i j (less h) k = less (omega arith)
with_digits i j (equal h) (less k) = less (omega arith)
with_digits i j (equal h) (equal k) = equal (omega arith)
with_digits i j (equal h) (greater k) = greater (omega arith)
with_digits i j (greater h) k = greater (omega arith)

spelled_after_compared : (x y : ℕ) {o : Ordering} (u m : List ℕ) → length u ≡ length m → Digits u → Digits m → Compared x y o → Compared (spelled_after x u) (spelled_after y m) (ordering_then o (lexicographic u m))
spelled_after_compared x y [] [] l du dm (less h) = less h
spelled_after_compared x y [] [] l du dm (equal h) = equal h
spelled_after_compared x y [] [] l du dm (greater h) = greater h
spelled_after_compared x y [] (e ∷ m) l du dm c = absurd (omega arith)
spelled_after_compared x y (d ∷ u) [] l du dm c = absurd (omega arith)
spelled_after_compared x y (d ∷ u) (e ∷ m) l du dm (less h) =
    spelled_after_compared (x * 256 + d) (y * 256 + e) u m (omega arith) (λ i. du (suc i)) (λ i. dm (suc i)) (with_digits (du 0) (dm 0) (less h) (ordered d e))
spelled_after_compared x y (d ∷ u) (e ∷ m) l du dm (equal h) =
    spelled_after_compared (x * 256 + d) (y * 256 + e) u m (omega arith) (λ i. du (suc i)) (λ i. dm (suc i)) (with_digits (du 0) (dm 0) (equal h) (ordered d e))
spelled_after_compared x y (d ∷ u) (e ∷ m) l du dm (greater h) =
    spelled_after_compared (x * 256 + d) (y * 256 + e) u m (omega arith) (λ i. du (suc i)) (λ i. dm (suc i)) (with_digits (du 0) (dm 0) (greater h) (ordered d e))

-- the library compares numbers alike
numbers_compared : (d e : ℕ) → nat_cmp d e ≡ numbers d e
numbers_compared d e = ⊎_elim lower other (cases_lt d e)
  where
    lower : d < e → nat_cmp d e ≡ numbers d e
    lower h = rw (lt-ltb d e h)

    other : e ≤ d → nat_cmp d e ≡ numbers d e
    other h = ⊎_elim (λ l. rw (le-ltb d e h, lt-ltb e d l, ne_eqb d e (λ p. omega (arith, p)))) (λ l. rw (le-ltb d e h, le-ltb e d l, eq-eqb d e (omega arith))) (cases_lt e d)

-- the library compares lists lexicographically, where they are as long
pub compared : (u m : List ℕ) → length u ≡ length m → slice_cmp nat_cmp u m ≡ lexicographic u m
compared [] [] h = refl
compared [] (e ∷ m) h = absurd (omega arith)
compared (d ∷ u) [] h = absurd (omega arith)
compared (d ∷ u) (e ∷ m) h = ap₂ ordering_then (numbers_compared d e) (compared u m (omega arith))

-- lists of digits, as many, compare as the numbers that they spell
pub spelled_compared : (u m : List ℕ) → length u ≡ length m → Digits u → Digits m → nat_cmp (spelled u) (spelled m) ≡ lexicographic u m
spelled_compared u m l du dm =
    numbers_compared (spelled u) (spelled m) ∙ alike (ordered (spelled u) (spelled m)) (spelled_after_compared 0 0 u m l du dm (ordered 0 0)) ((λ h. h), (λ h. h)) ((λ h. h), (λ h. h))

digits_reversed : (u : List ℕ) → Digits u → Digits (reverse u)
digits_reversed u du i =
    ⊎_elim
    (λ l. omega (arith, get_or-reverse u i 0 l, du (length u - 1 - i)))
    (λ l. omega (arith, get_or_past (reverse u) i 0 (omega (arith, length-reverse u))))
    (cases_lt i (length u))

-- the same of the digits from the last, the other way round
pub spelled_turned : (u m : List ℕ) → Wide u → Wide m → Digits u → Digits m → nat_cmp (spelled (reverse m)) (spelled (reverse u)) ≡ ordering_reverse (lexicographic (reverse u) (reverse m))
spelled_turned u m wu wm du dm =
    let ru = length-reverse u ∙ wu in
    let rm = length-reverse m ∙ wm in
    spelled_compared (reverse m) (reverse u) (rm ∙ sym ru) (digits_reversed m dm) (digits_reversed u du) ∙ lexicographic_laws.total (reverse u) (reverse m) ru rm
