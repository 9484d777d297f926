-- The first check that fails, term by term; and what passes all checks is acceptable, and nothing else.
use Rattle.std.proofs.Common.{◌≡◌, ℕ, zero, suc, ◌+◌, ◌-◌, ◌<◌, ◌≤◌, Bool, true, false, cond, eqb, ltb, leb, ◌⊎◌, List, [], ◌∷◌, length, get_or, drop, is_ok, Some, None, Ok, Err, Decides, Option, Ordering, Less, Equal, Greater, sym, refl, ap, ◌∙◌, subst, inl, inr, ⊎_elim, ap₂, ◌&&◌, add-one, arith}
use mathlib.Core.List.Memᴰ
use mathlib.Core.List.{Memᴰ}
use Rattle.std.specs.List.{list_all, enumerate_from}
use Rattle.std.specs.Ordering.{is_lt}
use Rattle.std.proofs.lemmas.List.{drop_more}
use Rattle.std.proofs.lemmas.Bool.{and_parts, and_from, both_ways, cases_lt, leb-true, le-leb, ltb-true, lt-ltb, le-ltb, eqb-true, eq-eqb, cond-true, cond-false}
use Rattle.field.specs.Field.{FieldMeaning}
use Rattle.monomial.specs.Monomial.{In, Bounded}
use Rattle.monomial.specs.Order.{Compare}
use Rattle.monomial.specs.Places.{low}
use Rattle.polynomial.specs.declared.term.Term.{Term}
use Rattle.polynomial.specs.declared.refusal.Refusal.{Refusal}
use Rattle.polynomial.specs.declared.refusal.Refusal.TheVariants.{TooManyTerms, Coefficient, Exponent, NotFalling}
use Rattle.polynomial.specs.Polynomial.{Poly, exponents, Falling, none, single, more}
use Rattle.polynomial.specs.Check.{Acceptable, is_code, small_exponents, has_exponents, below_last, term_fault, or_else, faults, fault, outcome}

-- exponents that pass the test, place by place
small_at : (n : ℕ) (m : List ℕ) → small_exponents n m ≡ true → (i : ℕ) → (get_or m i 0 ≤ 40) × (n ≤ i → get_or m i 0 ≡ 0)
small_at n [] h i = (omega arith, λ l. refl)
small_at n (e ∷ m) h zero = go (cases_lt 0 n) (leb-true e (cond (ltb 0 n) 40 0) (and_parts (leb e (cond (ltb 0 n) 40 0)) (small_exponents (n - 1) m) h).0)
  where
    go : (0 < n) ⊎ (n ≤ 0) → e ≤ cond (ltb 0 n) 40 0 → (e ≤ 40) × (n ≤ 0 → e ≡ 0)
    go (inl p) q = let k : e ≤ 40 = subst (λ x. e ≤ x) (cond-true (ltb 0 n) 40 0 (lt-ltb 0 n p)) q in (k, λ l. omega arith)
    go (inr p) q = let k : e ≤ 0 = subst (λ x. e ≤ x) (cond-false (ltb 0 n) 40 0 (le-ltb 0 n p)) q in (omega arith, λ l. omega arith)
small_at n (e ∷ m) h (suc i) =
    let r = small_at (n - 1) m (and_parts (leb e (cond (ltb 0 n) 40 0)) (small_exponents (n - 1) m) h).1 i in
    (r.0, λ l. r.1 (omega arith))

small_from : (n : ℕ) (m : List ℕ) → ((i : ℕ) → get_or m i 0 ≤ 40) → ((i : ℕ) → n ≤ i → get_or m i 0 ≡ 0) → small_exponents n m ≡ true
small_from n [] b a = refl
small_from n (e ∷ m) b a =
    and_from (leb e (cond (ltb 0 n) 40 0)) (small_exponents (n - 1) m) (le-leb e (cond (ltb 0 n) 40 0) (go (cases_lt 0 n)))
    (small_from (n - 1) m (λ i. b (suc i)) (λ i l. a (suc i) (omega arith)))
  where
    go : (0 < n) ⊎ (n ≤ 0) → e ≤ cond (ltb 0 n) 40 0
    go (inl p) = subst (λ x. e ≤ x) (sym (cond-true (ltb 0 n) 40 0 (lt-ltb 0 n p))) (b 0)
    go (inr p) = subst (λ x. e ≤ x) (sym (cond-false (ltb 0 n) 40 0 (le-ltb 0 n p))) (omega (arith, a 0 p))

less_from : (o : Ordering) → is_lt o ≡ true → o ≡ Less
less_from Less e = refl
less_from Equal e = absurd (both_ways false refl e)
less_from Greater e = absurd (both_ways false refl e)

-- a chain of tests that ends in no refusal
none_first : (b : Bool) (x : Option Refusal) (r : Refusal) → cond b x (Some r) ≡ None → (b ≡ true) × (x ≡ None)
none_first true x r e = (refl, e)
none_first false x r e = let z : ◌≡◌ {A = ℕ} 0 1 = cc in absurd (omega arith)

module _ (F : FieldMeaning) (O : Compare) (n : ℕ) where
  or_none : (q r : Option Refusal) → or_else F O n q r ≡ None → (q ≡ None) × (r ≡ None)
  or_none None r e = (refl, e)
  or_none (Some q) r e = let z : ◌≡◌ {A = ℕ} 0 1 = cc in absurd (omega arith)

  -- one term more
  pub faults_more : (before : Option Term) (f : Poly) (i : ℕ) (d : Term) (o : Option Refusal) → i < length f → o ≡ term_fault F O n before (i + 1) (get_or f i d) →
      faults F O n before (suc i) (drop i f) ≡ or_else F O n o (faults F O n (Some (get_or f i d)) (suc (suc i)) (drop (i + 1) f))
  faults_more before f i d o h e =
      let z : term_fault F O n before (suc i) (get_or f i d) ≡ o = ap (λ k. term_fault F O n before k (get_or f i d)) (sym (add-one i)) ∙ sym e in
      ap (faults F O n before (suc i)) (drop_more f i d h) ∙ ap (λ x. or_else F O n x (faults F O n (Some (get_or f i d)) (suc (suc i)) (drop (i + 1) f))) z

  -- the answers at one term
  pub refused : (o : Option Refusal) (r : Refusal) → outcome o ≡ Err r → Some r ≡ o
  refused None r e = let z : ◌≡◌ {A = ℕ} 0 1 = cc in absurd (omega arith)
  refused (Some q) r e = cc

  pub granted : (o : Option Refusal) → outcome o ≡ Ok tt → None ≡ o
  granted None e = refl
  granted (Some q) e = let z : ◌≡◌ {A = ℕ} 0 1 = cc in absurd (omega arith)

  pub fault_short : (f : Poly) → length f ≤ 40 → fault F O n f ≡ faults F O n None 1 f
  fault_short f h = cond-false _ _ _ (le-ltb 40 (length f) h)

  pub fault_long : (f : Poly) → 40 < length f → fault F O n f ≡ Some TooManyTerms
  fault_long f h = cond-true _ _ _ (lt-ltb 40 (length f) h)

  -- a term by itself
  record Stands (t : Term) : Type 0 where
    code : (0 < t.coefficient) × (t.coefficient < F.q)
    inside : In n (exponents t)
    small : Bounded 40 (exponents t)

  stands_from : (before : Option Term) (k : ℕ) (t : Term) → term_fault F O n before k t ≡ None → Stands t × (below_last O before t ≡ true)
  stands_from before k t e =
      let a = none_first (is_code F t.coefficient) _ (Coefficient k) e in
      let b = none_first (has_exponents n t) _ (Exponent k) a.1 in
      let c = none_first (below_last O before t) None (NotFalling k) b.1 in
      let p = and_parts (ltb 0 t.coefficient) (ltb t.coefficient F.q) a.0 in
      let q = and_parts (eqb (length (exponents t)) 6) (small_exponents n (exponents t)) b.0 in
      let s = small_at n (exponents t) q.1 in (
        record {
          code = (ltb-true 0 t.coefficient p.0, ltb-true t.coefficient F.q p.1);
          inside = record { wide = eqb-true (length (exponents t)) 6 q.0; absent = λ v h. (s (v - 1)).1 (omega arith) };
          small = λ v. (s (v - 1)).0;
        },
        c.0,
      )

  no_fault : (before : Option Term) (k : ℕ) (t : Term) → Stands t → below_last O before t ≡ true → term_fault F O n before k t ≡ None
  no_fault before k t s u =
      let a : is_code F t.coefficient ≡ true = and_from (ltb 0 t.coefficient) (ltb t.coefficient F.q) (lt-ltb 0 t.coefficient s.code.0) (lt-ltb t.coefficient F.q s.code.1) in
      let b : small_exponents n (exponents t) ≡ true = small_from n (exponents t) (λ i. rw (low i) at (s.small (suc i))) (λ i l. rw (low i) at (s.inside.absent (suc i) (omega arith))) in
      let c : has_exponents n t ≡ true = and_from (eqb (length (exponents t)) 6) (small_exponents n (exponents t)) (eq-eqb (length (exponents t)) 6 s.inside.wide) b in
      rw (a, c, u)

  -- the terms behind a first one
  each : (before : Option Term) (k : ℕ) (f : Poly) → faults F O n before k f ≡ None → (t : Term) → Memᴰ t f → Stands t
  each before k [] e t h = elim h [ ]
  each before k (s ∷ f) e t h =
      let p = or_none _ _ e in
      ⊎_elim (λ q. subst Stands (sym q) (stands_from before k s p.0).0) (λ q. each (Some s) (suc k) f p.1 t q) (Memᴰ.cases_cons h)

  falls : (before : Option Term) (k : ℕ) (f : Poly) → faults F O n before k f ≡ None → Falling O f
  falls before k [] e = none
  falls before k (t ∷ []) e = single
  falls before k (t ∷ s ∷ f) e =
      let p = or_none _ _ e in
      let q = or_none _ _ p.1 in
      more (less_from _ (stands_from (Some t) (suc k) s q.0).1) (falls (Some t) (suc k) (s ∷ f) p.1)

  -- the term before, and what stands behind it
  abbrev Behind : Option Term → Poly → Type 0
  Behind None f = Falling O f
  Behind (Some s) f = Falling O (s ∷ f)

  behind_first : (before : Option Term) (t : Term) (f : Poly) → Behind before (t ∷ f) → (below_last O before t ≡ true) × Behind (Some t) f
  behind_first None t f h = (refl, h)
  behind_first (Some s) t f (more u h) = (ap is_lt u, h)

  no_faults : (before : Option Term) (k : ℕ) (f : Poly) → ((t : Term) → Memᴰ t f → Stands t) → Behind before f → faults F O n before k f ≡ None
  no_faults before k [] s h = refl
  no_faults before k (t ∷ f) s h =
      let b = behind_first before t f h in
      ap (λ x. or_else F O n x (faults F O n (Some t) (suc k) f)) (no_fault before k t (s t (Memᴰ.head refl)) b.0) ∙ no_faults (Some t) (suc k) f (λ u m. s u (Memᴰ.tail m)) b.1

  pub acceptable_from : (f : Poly) → fault F O n f ≡ None → Acceptable F O n f
  acceptable_from f e = go (cases_lt 40 (length f))
    where
      go : (40 < length f) ⊎ (length f ≤ 40) → Acceptable F O n f
      go (inl h) = let z : ◌≡◌ {A = ℕ} 0 1 = cc (fault_long f h) in absurd (omega arith)
      go (inr h) =
          let d = sym (fault_short f h) ∙ e in
          let s = each None 1 f d in
          record {
            written = record { over = λ t m. ((s t m).code.1, (s t m).inside); nonzero = λ t m. (s t m).code.0; falling = falls None 1 f d };
            fits = λ t m. (s t m).small;
            short = h;
          }

  pub no_fault_from : (f : Poly) → Acceptable F O n f → fault F O n f ≡ None
  no_fault_from f a =
      fault_short f a.short
      ∙ no_faults None 1 f (λ t m. record { code = (a.written.nonzero t m, (a.written.over t m).0); inside = (a.written.over t m).1; small = a.fits t m }) a.written.falling

  -- what is answered says which polynomials are acceptable
  pub accepts : (f : Poly) (o : Option Refusal) → o ≡ fault F O n f → Decides (is_ok (outcome o)) (Acceptable F O n f)
  accepts f None e = (λ _. acceptable_from f (sym e), λ _. refl)
  accepts f (Some r) e = (λ h. absurd (both_ways false refl h), λ a. let z : ◌≡◌ {A = ℕ} 0 1 = cc (no_fault_from f a) in absurd (omega arith))

-- each exponent with its place, where the place counts from i
abbrev pub limit : ℕ → ℕ → ℕ
limit n i = cond (ltb i n) 40 0

pub all_small : (n i : ℕ) (m : List ℕ) → list_all (λ p. leb p.1 (limit n p.0)) (enumerate_from i m) ≡ small_exponents (n - i) m
all_small n i [] = refl
all_small n i (e ∷ m) =
    let z : (n - i) - 1 ≡ n - (i + 1) = omega arith in
    let k : limit n i ≡ cond (ltb 0 (n - i)) 40 0 = ⊎_elim
    (λ l. cond-true _ _ _ (lt-ltb i n l) ∙ sym (cond-true _ _ _ (lt-ltb 0 (n - i) (omega arith))))
    (λ l. cond-false _ _ _ (le-ltb i n l) ∙ sym (cond-false _ _ _ (le-ltb 0 (n - i) (omega arith))))
    (cases_lt i n) in
    ap₂ (λ x y. leb e x && y) k (all_small n (i + 1) m ∙ ap (λ x. small_exponents x m) (sym z))
