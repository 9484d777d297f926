-- Monomials in the variables 1 to n: a cancellative monoid with decidable division.
use Rattle.std.proofs.Common.{◌≡◌, ℕ, zero, suc, ◌+◌, ◌-◌, ◌<◌, ◌≤◌, true, false, eqb, ◌⊎◌, List, [], ◌∷◌, length, get_or, replicate, sym, refl, ap, ◌∙◌, subst, inl, inr, ⊎_elim, add_assoc, add_comm, zero-add, arith}
use mathlib.Core.HLevel.{Σ_prop_path}
use native.Mathlib.Nat.{ℕ_set}
use Rattle.std.proofs.lemmas.Bool.{eqb-true, eq-eqb, and_parts, and_from, both_ways, cases_Bool, cases_eq, cases_lt}
use Rattle.monomial.specs.Division.{Within}
use Rattle.monomial.specs.Places.{at_times, at_quotient, length_times, length_quotient, low}
use Rattle.monomial.specs.Divisions.{at_variable, at_others, wide_variable}
use Rattle.monomial.specs.Monomial.{width, Wide, In, same, exponent, one, variable, times, Divides, quotient}

pub times_comm : (u m : List ℕ) → times u m ≡ times m u
times_comm [] [] = refl
times_comm [] (e ∷ m) = refl
times_comm (d ∷ u) [] = refl
times_comm (d ∷ u) (e ∷ m) = cc (add_comm d e, times_comm u m)

pub times_assoc : (a u m : List ℕ) → times (times a u) m ≡ times a (times u m)
times_assoc [] u m = refl
times_assoc (c ∷ a) [] m = refl
times_assoc (c ∷ a) (d ∷ u) [] = refl
times_assoc (c ∷ a) (d ∷ u) (e ∷ m) = cc (add_assoc c d e, times_assoc a u m)

pub ones_times : (m : List ℕ) → times (replicate (length m) 0) m ≡ m
ones_times [] = refl
ones_times (e ∷ m) = cc (zero-add e, ones_times m)

pub quotient_times : (a n : List ℕ) → length a ≡ length n → quotient (times a n) a ≡ n
quotient_times [] [] e = refl
quotient_times [] (x ∷ n) e = absurd (omega arith)
quotient_times (c ∷ a) [] e = absurd (omega arith)
quotient_times (c ∷ a) (x ∷ n) e = let h : (c + x) - c ≡ x = omega arith in cc (h, quotient_times a n (omega arith))

-- the exponents from 0 on
pub times_quotient : (u m : List ℕ) → length u ≡ length m → ((i : ℕ) → get_or u i 0 ≤ get_or m i 0) → times u (quotient m u) ≡ m
times_quotient [] [] e h = refl
times_quotient [] (x ∷ m) e h = absurd (omega arith)
times_quotient (d ∷ u) [] e h = absurd (omega arith)
times_quotient (d ∷ u) (x ∷ m) e h =
    let k : d + (x - d) ≡ x = omega (arith, h 0) in
    cc (k, times_quotient u m (omega arith) (λ i. h (suc i)))

pub divides_times : (u m : List ℕ) → length u ≡ length m → (i : ℕ) → get_or u i 0 ≤ get_or (times u m) i 0
divides_times [] m e i = omega arith
divides_times (d ∷ u) [] e i = absurd (omega arith)
divides_times (d ∷ u) (x ∷ m) e zero = omega arith
divides_times (d ∷ u) (x ∷ m) e (suc i) = divides_times u m (omega arith) i

pub same_true : (u m : List ℕ) → same u m ≡ true → u ≡ m
same_true [] [] e = refl
same_true [] (x ∷ m) e = absurd (both_ways true (sym e) refl)
same_true (d ∷ u) [] e = absurd (both_ways true (sym e) refl)
same_true (d ∷ u) (x ∷ m) e = let p = and_parts (eqb d x) (same u m) e in cc (eqb-true d x p.0, same_true u m p.1)

pub same_refl : (u : List ℕ) → same u u ≡ true
same_refl [] = refl
same_refl (d ∷ u) = and_from (eqb d d) (same u u) (eq-eqb d d refl) (same_refl u)

pub zeros : (n i : ℕ) → get_or {A = ℕ} (replicate n 0) i 0 ≡ 0
zeros zero i = refl
zeros (suc n) zero = refl
zeros (suc n) (suc i) = zeros n i

-- a monomial in the variables 1 to n, with the proof that it is one
abbrev pub Mono : ℕ → Type 0
Mono n = (m : List ℕ) × In n m

pub in_prop : {n : ℕ} {m : List ℕ} → IsProp (In n m)
in_prop {n} {m} a b i = record { wide = ℕ_set (length m) width a.wide b.wide i; absent = λ v h. ℕ_set (get_or m (v - 1) 0) 0 (a.absent v h) (b.absent v h) i }

pub mono_eq : {n : ℕ} {u m : Mono n} → u.0 ≡ m.0 → u ≡ m
mono_eq e = Σ_prop_path (λ m. in_prop) e

pub in_times : {n : ℕ} {u m : List ℕ} → In n u → In n m → In n (times u m)
in_times {n} {u} {m} a b = record {
  wide = length_times u m (a.wide ∙ sym b.wide) ∙ b.wide;
  absent = λ v h. omega (arith, at_times u m (a.wide ∙ sym b.wide) (v - 1), a.absent v h, b.absent v h);
}

pub in_quotient : {n : ℕ} {m : List ℕ} (u : List ℕ) → In n m → Wide u → In n (quotient m u)
in_quotient {n} {m} u a w = record {
  wide = length_quotient m u (a.wide ∙ sym w) ∙ a.wide;
  absent = λ v h. omega (arith, at_quotient m u (a.wide ∙ sym w) (v - 1), a.absent v h);
}

pub in_one : {n : ℕ} → In n one
in_one = record { wide = refl; absent = λ v h. zeros 6 (v - 1) }

pub in_variable : {n v : ℕ} → Within v n → In n (variable v)
in_variable {n} {v} w = record {
  wide = wide_variable v;
  absent = λ u h. at_others v (u - 1) (λ e. omega arith);
}

abbrev pub mul : {n : ℕ} → Mono n → Mono n → Mono n
mul u m = (times u.0 m.0, in_times u.1 m.1)

abbrev pub unit : {n : ℕ} → Mono n
unit = (one, in_one)

abbrev pub var : {n : ℕ} (v : ℕ) → Within v n → Mono n
var v w = (variable v, in_variable w)

abbrev pub over : {n : ℕ} → Mono n → Mono n → Mono n
over m u = (quotient m.0 u.0, in_quotient u.0 m.1 u.1.wide)

pub mul_comm : {n : ℕ} (u m : Mono n) → mul u m ≡ mul m u
mul_comm u m = mono_eq (times_comm u.0 m.0)

pub mul_assoc : {n : ℕ} (a u m : Mono n) → mul (mul a u) m ≡ mul a (mul u m)
mul_assoc a u m = mono_eq (times_assoc a.0 u.0 m.0)

pub unit_mul : {n : ℕ} (m : Mono n) → mul unit m ≡ m
unit_mul m = mono_eq (ap (λ n. times (replicate n 0) m.0) (sym m.1.wide) ∙ ones_times m.0)

pub over_mul : {n : ℕ} (a m : Mono n) → over (mul a m) a ≡ m
over_mul a m = mono_eq (quotient_times a.0 m.0 (a.1.wide ∙ sym m.1.wide))

pub mul_over : {n : ℕ} (u m : Mono n) → Divides u.0 m.0 → mul u (over m u) ≡ m
mul_over u m h = mono_eq (times_quotient u.0 m.0 (u.1.wide ∙ sym m.1.wide) (λ i. rw (low i) at (h (suc i))))

pub divides_mul : {n : ℕ} (u m : Mono n) → Divides u.0 (mul u m).0
divides_mul u m v = divides_times u.0 m.0 (u.1.wide ∙ sym m.1.wide) (v - 1)

pub cancel : {n : ℕ} (a m k : Mono n) → mul a m ≡ mul a k → m ≡ k
cancel a m k e = sym (over_mul a m) ∙ ap (λ x. over x a) e ∙ over_mul a k

pub same_yes : {n : ℕ} (u m : Mono n) → u ≡ m → same u.0 m.0 ≡ true
same_yes u m e = ap (λ x. same u.0 x.0) (sym e) ∙ same_refl u.0

pub same? : {n : ℕ} (u m : Mono n) → Dec (u ≡ m)
same? u m = go (cases_Bool (same u.0 m.0))
  where
    go : (same u.0 m.0 ≡ true) ⊎ (same u.0 m.0 ≡ false) → Dec (u ≡ m)
    go (inl t) = yes (mono_eq (same_true u.0 m.0 t))
    go (inr f) = no (λ e. both_ways _ f (same_yes u m e))

pub same_no : {n : ℕ} (u m : Mono n) → (u ≡ m → ⊥) → same u.0 m.0 ≡ false
same_no u m h = ⊎_elim (λ t. absurd (h (mono_eq (same_true u.0 m.0 t)))) (λ f. f) (cases_Bool (same u.0 m.0))

pub divide : {n : ℕ} (a m : Mono n) → Dec ((k : Mono n) × (m ≡ mul a k))
divide {n} a m = go (same? m (mul a (over m a)))
  where
    go : Dec (m ≡ mul a (over m a)) → Dec ((k : Mono n) × (m ≡ mul a k))
    go (yes e) = yes (over m a, e)
    go (no h) = no (λ d. h (d.1 ∙ ap (mul a) (sym (over_mul a d.0) ∙ ap (λ x. over x a) (sym d.1))))

pub variable_divides : {n : ℕ} (a : Mono n) (v : ℕ) → Within v 6 → 0 < exponent a.0 v → Divides (variable v) a.0
variable_divides a v w h u = ⊎_elim
    (λ e. let s : get_or (variable v) (v - 1) 0 ≡ 1 = at_variable v w in subst (λ x. get_or (variable v) x 0 ≤ get_or a.0 x 0) (sym e) (omega arith))
    (λ e. let s : get_or (variable v) (u - 1) 0 ≡ 0 = at_others v (u - 1) e in omega arith)
    (cases_eq (u - 1) (v - 1))

-- a variable that occurs is one of 1 to n
pub inside : {n : ℕ} (a : Mono n) (v : ℕ) → 0 < exponent a.0 v → v ≤ n
inside {n} a v h = ⊎_elim (λ l. absurd (omega (arith, a.1.absent v l))) (λ l. l) (cases_lt n v)
