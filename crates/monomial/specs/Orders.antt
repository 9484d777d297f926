-- The laws of the three orders: each is lexicographic on weights that are additive and one to one.
use Rattle.std.specs.Prelude.{◌≡◌, ℕ, zero, suc, ◌+◌, ◌<◌, true, false, ◌⊎◌, ◌↔◌, List, [], ◌∷◌, reverse, length, replicate, ◌≢◌, nat_lt, refl}
use Rattle.std.specs.declared.cmp.Ordering.TheVariants.{Less, Equal, Greater}
use Rattle.std.specs.declared.cmp.Ordering.{Ordering}
use Rattle.std.proofs.Common.{sym, ◌∙◌, ap, subst, inl, inr, arith}
use mathlib.Core.List.{reverse_aux, reverse-reverse}
use mathlib.Core.WellFounded.{Acc}
use Rattle.std.proofs.lemmas.List.{length-reverse}
use Rattle.std.specs.Ordering.{ordering_reverse, ordering_then}
use Rattle.std.proofs.lemmas.Bool.{cases_Bool, ltb-true, ltb-false}
use Rattle.monomial.specs.Monomial.{Wide, one, times, degree}
use Rattle.monomial.specs.Order.{Compare, UnderWide, OrderLaws, numbers, lexicographic, degree_lexicographic, degree_reverse}
use Rattle.monomial.specs.Places.{length_times}

-- what a comparison of numbers answers
pub data Compared (a b : ℕ) : Ordering → Type 0 where
  less : a < b → Compared a b Less
  equal : a ≡ b → Compared a b Equal
  greater : b < a → Compared a b Greater

pub compared : (a b : ℕ) → Compared a b (numbers a b)
compared a b = go (cases_Bool (nat_lt a b)) (cases_Bool (nat_lt b a))
  where
    go : (nat_lt a b ≡ true) ⊎ (nat_lt a b ≡ false) → (nat_lt b a ≡ true) ⊎ (nat_lt b a ≡ false) → Compared a b (numbers a b)
    go (inl p) q = rw p (less (ltb-true a b p))
    go (inr p) (inl q) = rw (p, q) (greater (ltb-true b a q))
    go (inr p) (inr q) = rw (p, q) (equal (omega (arith, ltb-false a b p, ltb-false b a q)))

-- two comparisons that come out alike
pub alike : {a b c d : ℕ} {o p : Ordering} → Compared a b o → Compared c d p → (a < b ↔ (c < d)) → (b < a ↔ (d < c)) → o ≡ p
alike (less h) (less k) f g = refl
alike (less h) (equal k) f g = absurd (omega (arith, f.0 h))
alike (less h) (greater k) f g = absurd (omega (arith, f.0 h))
alike (equal h) (less k) f g = absurd (omega (arith, f.1 k))
alike (equal h) (equal k) f g = refl
alike (equal h) (greater k) f g = absurd (omega (arith, g.1 k))
alike (greater h) (less k) f g = absurd (omega (arith, f.1 k))
alike (greater h) (equal k) f g = absurd (omega (arith, g.0 h))
alike (greater h) (greater k) f g = refl

flipped : {a b : ℕ} {o : Ordering} → Compared a b o → Compared b a (ordering_reverse o)
flipped (less h) = greater h
flipped (equal h) = equal (sym h)
flipped (greater h) = less h

compare_reversed : (a b : ℕ) → numbers b a ≡ ordering_reverse (numbers a b)
compare_reversed a b = alike (compared b a) (flipped (compared a b)) ((λ h. h), (λ h. h)) ((λ h. h), (λ h. h))

compare_add : (c a b : ℕ) → numbers (c + a) (c + b) ≡ numbers a b
compare_add c a b = alike (compared (c + a) (c + b)) (compared a b) (omega arith, omega arith) (omega arith, omega arith)

is_less : {a b : ℕ} {o : Ordering} → Compared a b o → o ≡ Less → a < b
is_less (less h) e = h
is_less (equal h) e = absurd (let z : ◌≡◌ {A = ℕ} 0 1 = cc in omega arith)
is_less (greater h) e = absurd (let z : ◌≡◌ {A = ℕ} 0 1 = cc in omega arith)

is_equal : {a b : ℕ} {o : Ordering} → Compared a b o → o ≡ Equal → a ≡ b
is_equal (less h) e = absurd (let z : ◌≡◌ {A = ℕ} 0 1 = cc in omega arith)
is_equal (equal h) e = h
is_equal (greater h) e = absurd (let z : ◌≡◌ {A = ℕ} 0 1 = cc in omega arith)

from_less : {a b : ℕ} {o : Ordering} → Compared a b o → a < b → o ≡ Less
from_less (less h) l = refl
from_less (equal h) l = absurd (omega arith)
from_less (greater h) l = absurd (omega arith)

from_equal : {a b : ℕ} {o : Ordering} → Compared a b o → a ≡ b → o ≡ Equal
from_equal (less h) l = absurd (omega arith)
from_equal (equal h) l = refl
from_equal (greater h) l = absurd (omega arith)

compare_self : (a : ℕ) → numbers a a ≡ Equal
compare_self a = from_equal (compared a a) refl

-- thenBy
then_reversed : (o p : Ordering) → ordering_reverse (ordering_then o p) ≡ ordering_then (ordering_reverse o) (ordering_reverse p)
then_reversed Less p = refl
then_reversed Equal p = refl
then_reversed Greater p = refl

then_less : (o p : Ordering) → ordering_then o p ≡ Less → (o ≡ Less) ⊎ ((o ≡ Equal) × (p ≡ Less))
then_less Less p e = inl refl
then_less Equal p e = inr (refl, e)
then_less Greater p e = inl e

then_equal : (o p : Ordering) → ordering_then o p ≡ Equal → (o ≡ Equal) × (p ≡ Equal)
then_equal Less p e = (e, cc)
then_equal Equal p e = (refl, e)
then_equal Greater p e = (e, cc)

-- lexicographic
heads : (d e : ℕ) (o : Ordering) → ordering_then (numbers d e) o ≡ Less → (d < e) ⊎ ((d ≡ e) × (o ≡ Less))
heads d e o h = elim (then_less (numbers d e) o h) [ inl l ↦ inl (is_less (compared d e) l) | inr q ↦ inr (is_equal (compared d e) q.0, q.1) ]

by_head : (d e : ℕ) (o : Ordering) → d < e → ordering_then (numbers d e) o ≡ Less
by_head d e o h = ap (λ x. ordering_then x o) (from_less (compared d e) h)

by_tail : (d e : ℕ) (o : Ordering) → d ≡ e → o ≡ Less → ordering_then (numbers d e) o ≡ Less
by_tail d e o h k = cc (compare_self d)

lex_reversed : (u m : List ℕ) → length u ≡ length m → lexicographic m u ≡ ordering_reverse (lexicographic u m)
lex_reversed [] [] e = refl
lex_reversed [] (x ∷ m) e = refl
lex_reversed (d ∷ u) [] e = refl
lex_reversed (d ∷ u) (x ∷ m) e = cc (compare_reversed d x, lex_reversed u m (omega arith), then_reversed (numbers d x) (lexicographic u m))

lex_same : (u : List ℕ) → lexicographic u u ≡ Equal
lex_same [] = refl
lex_same (d ∷ u) = cc (compare_self d, lex_same u)

lex_equal : (u m : List ℕ) → length u ≡ length m → lexicographic u m ≡ Equal → u ≡ m
lex_equal [] [] e h = refl
lex_equal [] (x ∷ m) e h = absurd (omega arith)
lex_equal (d ∷ u) [] e h = absurd (omega arith)
lex_equal (d ∷ u) (x ∷ m) e h = let q = then_equal (numbers d x) (lexicographic u m) h in cc (is_equal (compared d x) q.0, lex_equal u m (omega arith) q.1)

lex_trans : (u v m : List ℕ) → lexicographic u v ≡ Less → lexicographic v m ≡ Less → lexicographic u m ≡ Less
lex_trans [] v m h k = h
lex_trans (d ∷ u) [] m h k = cc
lex_trans (d ∷ u) (x ∷ v) [] h k = k
lex_trans (d ∷ u) (x ∷ v) (y ∷ m) h k = go (λ p q. lex_trans u v m p q) (heads d x (lexicographic u v) h) (heads x y (lexicographic v m) k)
  where
    go : (lexicographic u v ≡ Less → lexicographic v m ≡ Less → lexicographic u m ≡ Less) → (d < x) ⊎ ((d ≡ x) × (lexicographic u v ≡ Less)) → (x < y) ⊎ ((x ≡ y) × (lexicographic v m ≡ Less)) →
        ordering_then (numbers d y) (lexicographic u m) ≡ Less
    go rec (inl p) (inl q) = by_head d y _ (omega arith)
    go rec (inl p) (inr q) = by_head d y _ (omega arith)
    go rec (inr p) (inl q) = by_head d y _ (omega arith)
    go rec (inr p) (inr q) = by_tail d y _ (p.0 ∙ q.0) (rec p.1 q.1)

lex_factor : (a u m : List ℕ) → length a ≡ length u → length u ≡ length m → lexicographic (times a u) (times a m) ≡ lexicographic u m
lex_factor [] [] m e f = refl
lex_factor [] (x ∷ u) m e f = absurd (omega arith)
lex_factor (c ∷ a) [] m e f = refl
lex_factor (c ∷ a) (d ∷ u) [] e f = refl
lex_factor (c ∷ a) (d ∷ u) (x ∷ m) e f = cc (compare_add c d x, lex_factor a u m (omega arith) (omega arith))

lex_least : (n : ℕ) (m : List ℕ) → length m ≡ n → (m ≢ replicate n 0) → lexicographic (replicate n 0) m ≡ Less
lex_least zero [] e h = absurd (h refl)
lex_least zero (x ∷ m) e h = absurd (omega arith)
lex_least (suc n) [] e h = absurd (omega arith)
lex_least (suc n) (zero ∷ m) e h = by_tail 0 0 _ refl (lex_least n m (omega arith) (λ q. h (ap (λ x. 0 ∷ x) q)))
lex_least (suc n) (suc x ∷ m) e h = by_head 0 (suc x) _ (omega arith)

-- no falling list of lists of one length goes on for ever
abbrev Beneath : List ℕ → List ℕ → Type 0
Beneath u m = (length u ≡ length m) × (lexicographic u m ≡ Less)

under_head : (n d : ℕ) → ((c : ℕ) → c < d → (w : List ℕ) → length w ≡ n → Acc Beneath (c ∷ w)) → {u : List ℕ} → Acc Beneath u → length u ≡ n → Acc Beneath (d ∷ u)
under_head n d below (Acc.intro u h) e = Acc.intro (d ∷ u) (go (λ w p. under_head n d below (h w p) (p.0 ∙ e)))
  where
    go : ((w : List ℕ) → Beneath w u → Acc Beneath (d ∷ w)) → (x : List ℕ) → Beneath x (d ∷ u) → Acc Beneath x
    go rec [] p = absurd (omega (arith, p.0))
    go rec (c ∷ w) p = elim (heads c d (lexicographic w u) p.1) [
      | inl l ↦ below c l w (omega (arith, p.0))
      | inr q ↦ subst (λ x. Acc Beneath (x ∷ w)) (sym q.0) (rec w (omega (arith, p.0), q.1))
    ]

heads_fall : (n : ℕ) → ((w : List ℕ) → length w ≡ n → Acc Beneath w) → (b c : ℕ) → c < b → (w : List ℕ) → length w ≡ n → Acc Beneath (c ∷ w)
heads_fall n tails zero c l w e = absurd (omega arith)
heads_fall n tails (suc b) c l w e = under_head n c (λ c' l' w' e'. heads_fall n tails b c' (omega arith) w' e') (tails w e) e

lists_fall : (n : ℕ) (u : List ℕ) → length u ≡ n → Acc Beneath u
lists_fall zero [] e = Acc.intro [] go
  where
    go : (x : List ℕ) → Beneath x [] → Acc Beneath x
    go [] p = absurd (let z : ◌≡◌ {A = ℕ} 0 1 = cc p.1 in omega arith)
    go (c ∷ w) p = absurd (omega (arith, p.0))
lists_fall zero (d ∷ u) e = absurd (omega arith)
lists_fall (suc n) [] e = absurd (omega arith)
lists_fall (suc n) (d ∷ u) e = heads_fall n (lists_fall n) (suc d) d (omega arith) u (omega arith)

-- an order by weights: W is additive and one to one
module _ (O : Compare) (n : ℕ) (W : List ℕ → List ℕ) (long : (u : List ℕ) → Wide u → length (W u) ≡ n)
    (is : (u m : List ℕ) → Wide u → Wide m → O u m ≡ lexicographic (W u) (W m)) (once : (u m : List ℕ) → Wide u → Wide m → W u ≡ W m → u ≡ m)
    (adds : (a u : List ℕ) → Wide a → Wide u → W (times a u) ≡ times (W a) (W u)) (starts : W one ≡ replicate n 0) where
  back : {z : List ℕ} → Acc Beneath z → (x : (u : List ℕ) × Wide u) → W x.0 ≡ z → Acc (UnderWide O) x
  back (Acc.intro z h) x e = Acc.intro x (λ y p. back (h (W y.0) (long y.0 y.1 ∙ sym (long x.0 x.1) ∙ ap length e, subst (λ t. lexicographic (W y.0) t ≡ Less) e (sym (is y.0 x.0 y.1 x.1) ∙ p))) y refl)

  weighted_laws : OrderLaws O
  weighted_laws = record {
    total = λ u m wu wm. is m u wm wu ∙ lex_reversed (W u) (W m) (long u wu ∙ sym (long m wm)) ∙ ap ordering_reverse (sym (is u m wu wm));
    equal = λ u m wu wm. ((λ e. once u m wu wm (lex_equal (W u) (W m) (long u wu ∙ sym (long m wm)) (sym (is u m wu wm) ∙ e))), (λ e. is u m wu wm ∙ ap (λ x. lexicographic (W u) (W x)) (sym e) ∙ lex_same (W u)));
    transitive = λ u v m wu wv wm p q. is u m wu wm ∙ lex_trans (W u) (W v) (W m) (sym (is u v wu wv) ∙ p) (sym (is v m wv wm) ∙ q);
    factor = λ a u m wa wu wm. is (times a u) (times a m) (wide a u wa wu) (wide a m wa wm) ∙ cc (adds a u wa wu, adds a m wa wm) ∙ lex_factor (W a) (W u) (W m) (long a wa ∙ sym (long u wu)) (long u wu ∙ sym (long m wm)) ∙ sym (is u m wu wm);
    least = λ m wm h. is one m refl wm ∙ ap (λ x. lexicographic x (W m)) starts ∙ lex_least n (W m) (long m wm) (λ e. h (once m one wm refl (e ∙ sym starts)));
    falls = record { apply = λ x. back (lists_fall n (W x.0) (long x.0 x.1)) x refl };
  }
    where
      wide : (a u : List ℕ) → Wide a → Wide u → Wide (times a u)
      wide a u wa wu = length_times a u (wa ∙ sym wu) ∙ wu

pub lexicographic_laws : OrderLaws lexicographic
lexicographic_laws = weighted_laws lexicographic 6 (λ u. u) (λ u w. w) (λ u m wu wm. refl) (λ u m wu wm e. e) (λ a u wa wu. refl) refl

degree_times : (a u : List ℕ) → length a ≡ length u → degree (times a u) ≡ degree a + degree u
degree_times [] [] e = refl
degree_times [] (x ∷ u) e = absurd (omega arith)
degree_times (c ∷ a) [] e = absurd (omega arith)
degree_times (c ∷ a) (d ∷ u) e = omega (arith, degree_times a u (omega arith))

pub degree_lexicographic_laws : OrderLaws degree_lexicographic
degree_lexicographic_laws = weighted_laws degree_lexicographic 7 (λ u. degree u ∷ u) (λ u w. ap suc w) (λ u m wu wm. refl) (λ u m wu wm e. cc) (λ a u wa wu. cc (degree_times a u (wa ∙ sym wu))) refl

-- degree first, thenBy the last exponent: the weights are the sums of the first exponents, the longest sum first
abbrev sums : List ℕ → List ℕ
sums [] = []
sums (e ∷ r) = degree (e ∷ r) ∷ sums r

length_sums : (r : List ℕ) → length (sums r) ≡ length r
length_sums [] = refl
length_sums (e ∷ r) = ap suc (length_sums r)

sums_times : (a u : List ℕ) → length a ≡ length u → sums (times a u) ≡ times (sums a) (sums u)
sums_times [] u e = refl
sums_times (c ∷ a) [] e = refl
sums_times (c ∷ a) (d ∷ u) e =
    let h : (c + d) + degree (times a u) ≡ (c + degree a) + (d + degree u) = omega (arith, degree_times a u (omega arith)) in
    cc (h, sums_times a u (omega arith))

sums_once : (r s : List ℕ) → length r ≡ length s → sums r ≡ sums s → r ≡ s
sums_once [] [] e h = refl
sums_once [] (x ∷ s) e h = absurd (omega arith)
sums_once (d ∷ r) [] e h = absurd (omega arith)
sums_once (d ∷ r) (x ∷ s) e h =
    let t : sums r ≡ sums s = cc in
    let q = sums_once r s (omega arith) t in
    let p : d + degree r ≡ x + degree s = cc in
    let z : d ≡ x = omega (arith, p, ap degree q) in
    cc

-- where the sums are equal, a larger tail goes with a smaller head
tail_compare : (d x a b : ℕ) → d + a ≡ x + b → numbers a b ≡ ordering_reverse (numbers d x)
tail_compare d x a b e = alike (compared a b) (flipped (compared d x)) (omega arith, omega arith) (omega arith, omega arith)

reverse_key : (r s : List ℕ) → length r ≡ length s → ordering_then (numbers (degree r) (degree s)) (ordering_reverse (lexicographic r s)) ≡ lexicographic (sums r) (sums s)
reverse_key [] [] e = refl
reverse_key [] (x ∷ s) e = absurd (omega arith)
reverse_key (d ∷ r) [] e = absurd (omega arith)
reverse_key (d ∷ r) (x ∷ s) e = go (reverse_key r s (omega arith)) (compared (d + degree r) (x + degree s))
  where
    go : {o : Ordering} → ordering_then (numbers (degree r) (degree s)) (ordering_reverse (lexicographic r s)) ≡ lexicographic (sums r) (sums s) → Compared (d + degree r) (x + degree s) o →
        ordering_then o (ordering_reverse (ordering_then (numbers d x) (lexicographic r s))) ≡ ordering_then o (lexicographic (sums r) (sums s))
    go rec (less h) = refl
    go rec (greater h) = refl
    go rec (equal h) = then_reversed (numbers d x) (lexicographic r s) ∙ ap (λ y. ordering_then y (ordering_reverse (lexicographic r s))) (sym (tail_compare d x (degree r) (degree s) h)) ∙ rec

degree_reverse_aux : (l r : List ℕ) → degree (reverse_aux l r) ≡ degree l + degree r
degree_reverse_aux [] r = omega arith
degree_reverse_aux (x ∷ l) r = omega (arith, degree_reverse_aux l (x ∷ r))

degree_of_reverse : (l : List ℕ) → degree (reverse l) ≡ degree l
degree_of_reverse l = omega (arith, degree_reverse_aux l [])

times_reverse_aux : (a u b v : List ℕ) → length a ≡ length u → reverse_aux (times a u) (times b v) ≡ times (reverse_aux a b) (reverse_aux u v)
times_reverse_aux [] [] b v e = refl
times_reverse_aux [] (x ∷ u) b v e = absurd (omega arith)
times_reverse_aux (c ∷ a) [] b v e = absurd (omega arith)
times_reverse_aux (c ∷ a) (d ∷ u) b v e = times_reverse_aux a u (c ∷ b) (d ∷ v) (omega arith)

pub degree_reverse_laws : OrderLaws degree_reverse
degree_reverse_laws = weighted_laws degree_reverse 6 (λ u. sums (reverse u)) (λ u w. length_sums (reverse u) ∙ length-reverse u ∙ w)
    (λ u m wu wm. cc (sym (degree_of_reverse u), sym (degree_of_reverse m), reverse_key (reverse u) (reverse m) (len u m wu wm)))
    (λ u m wu wm e. sym (reverse-reverse u) ∙ ap reverse (sums_once (reverse u) (reverse m) (len u m wu wm) e) ∙ reverse-reverse m)
    (λ a u wa wu. ap sums (times_reverse_aux a u [] [] (wa ∙ sym wu)) ∙ sums_times (reverse a) (reverse u) (len a u wa wu)) refl
  where
    len : (u m : List ℕ) → Wide u → Wide m → length (reverse u) ≡ length (reverse m)
    len u m wu wm = length-reverse u ∙ wu ∙ sym wm ∙ sym (length-reverse m)
