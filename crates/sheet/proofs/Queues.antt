-- Pairs put into the queue one after another.
use Rattle.std.proofs.Common.{◌≡◌, ℕ, zero, suc, ◌+◌, ◌-◌, ◌<◌, ◌≤◌, Bool, true, false, not, ◌&&◌, ◌||◌, eqb, List, [], ◌∷◌, ◌++◌, length, get_or, Ordering, Less, Equal, Greater, sym, refl, ap, ◌∙◌, subst, ap₂, subst₂, inl, inr, ⊎_elim, arith, length-set, length-append}
use Rattle.std.specs.List.{insert}
use Rattle.std.specs.List.Sorted.{IsPartitionedBy, IsPartitionPoint}
use Rattle.std.specs.Ordering.{is_lt, ordering_reverse}
use Rattle.std.proofs.lemmas.List.Edits.{get_or-insert_at, get_or-insert_below, get_or-insert_above, length-insert}
use Rattle.std.proofs.lemmas.List.{get_or_append_left, get_or_push}
use Rattle.std.proofs.lemmas.Bool.{cases_eq, cases_lt, both_ways, eq-eqb, or_cases, le-leb}
use Rattle.monomial.specs.Monomial.{Wide, width}
use Rattle.monomial.specs.Order.{Compare, OrderLaws}
use Rattle.monomial.specs.Division.{Within, member}
use Rattle.sheet.specs.declared.queue.Pick.{Pick}
use Rattle.sheet.specs.Queueing.{capped_raise, no_pick, pick_at, in_turn, has, Filled, Queued}

or_right : (a b : Bool) → b ≡ true → (a || b) ≡ true
or_right true b e = refl
or_right false b e = e

or_left : (a b : Bool) → a ≡ true → (a || b) ≡ true
or_left a b e = ap (λ x. x || b) e

-- ---- which pairs are there

abbrev is : Pick → ℕ → ℕ → Bool
is p k v = eqb p.row k && eqb p.variable v

has_old : (xs : List Pick) (i : ℕ) (p : Pick) (k v : ℕ) → has xs k v ≡ true → has (insert xs i p) k v ≡ true
has_old [] i p k v e = absurd (both_ways false refl e)
has_old (x ∷ xs) zero p k v e = or_right (is p k v) (has (x ∷ xs) k v) e
has_old (x ∷ xs) (suc i) p k v e = ⊎_elim (λ a. or_left (is x k v) (has (insert xs i p) k v) a) (λ b. or_right (is x k v) (has (insert xs i p) k v) (has_old xs i p k v b)) (or_cases (is x k v) (has xs k v) e)

has_new : (xs : List Pick) (i : ℕ) (p : Pick) (k v : ℕ) → is p k v ≡ true → has (insert xs i p) k v ≡ true
has_new [] zero p k v e = or_left (is p k v) false e
has_new [] (suc i) p k v e = or_left (is p k v) false e
has_new (x ∷ xs) zero p k v e = or_left (is p k v) (has (x ∷ xs) k v) e
has_new (x ∷ xs) (suc i) p k v e = or_right (is x k v) (has (insert xs i p) k v) (has_new xs i p k v e)

-- ---- what holds of each, and of each two in their order

abbrev Turn : Compare → Pick → Pick → Type 0
Turn O p q = in_turn (O p.height.exponents q.height.exponents) p.row q.row ≡ true

module _ (xs : List Pick) (at : ℕ) (p : Pick) (h : at ≤ length xs) where
  abbrev new : List Pick
  new = insert xs at p

  long : length new ≡ length xs + 1
  long = length-insert xs at p h

  here : pick_at new at ≡ p
  here = get_or-insert_at xs at p no_pick h

  below : (i : ℕ) → i < at → pick_at new i ≡ pick_at xs i
  below i l = get_or-insert_below xs at p no_pick i l h

  above : (i : ℕ) → at < i → pick_at new i ≡ pick_at xs (i - 1)
  above i l = let z : i ≡ i - 1 + 1 = omega (arith, l) in ap (pick_at new) z ∙ get_or-insert_above xs at p no_pick (i - 1) (omega (arith, l)) h

  each : (P : Pick → Type 0) → ((i : ℕ) → i < length xs → P (pick_at xs i)) → P p → (i : ℕ) → i < length new → P (pick_at new i)
  each P f q i l = ⊎_elim
      (λ b. subst P (sym (below i b)) (f i (omega (arith, b, h))))
      (λ n. ⊎_elim (λ e. subst (λ j. P (pick_at new j)) (sym e) (subst P (sym here) q)) (λ d. subst P (sym (above i (omega (arith, n, d)))) (f (i - 1) (omega (arith, l, long, n, d)))) (cases_eq i at))
      (cases_lt i at)

  each_two : (R : Pick → Pick → Type 0) → ((i j : ℕ) → i < j → j < length xs → R (pick_at xs i) (pick_at xs j)) → ((i : ℕ) → i < at → R (pick_at xs i) p) → ((i : ℕ) → at ≤ i → i < length xs → R p (pick_at xs i)) →
      (i j : ℕ) → i < j → j < length new → R (pick_at new i) (pick_at new j)
  each_two R f g k i j l m = ⊎_elim
      (λ b. subst₂ R (sym (below i (omega (arith, b, l)))) (sym (below j b)) (f i j l (omega (arith, b, h))))
      (λ n. ⊎_elim
      (λ e. let b : i < at = omega (arith, e, l) in subst₂ R (sym (below i b)) (sym (ap (pick_at new) e ∙ here)) (g i b))
      (λ d. let u : at < j = omega (arith, n, d) in let s : j - 1 < length xs = omega (arith, u, m, long) in ⊎_elim
      (λ b. subst₂ R (sym (below i b)) (sym (above j u)) (f i (j - 1) (omega (arith, b, u)) s))
      (λ c. ⊎_elim
      (λ e. subst₂ R (sym (ap (pick_at new) e ∙ here)) (sym (above j u)) (k (j - 1) (omega (arith, u)) s))
      (λ w. let t : at < i = omega (arith, c, w) in subst₂ R (sym (above i t)) (sym (above j u)) (f (i - 1) (j - 1) (omega (arith, t, l)) s))
      (cases_eq i at))
      (cases_lt i at))
      (cases_eq j at))
      (cases_lt j at)

-- ---- where a pair goes

-- a pair that p may stand behind
abbrev pub goes : Compare → Pick → Pick → Bool
goes O p y = not (is_lt (O p.height.exponents y.height.exponents))

module _ (O : Compare) (Q : OrderLaws O) where
  same_place : (a b c : List ℕ) (j k : ℕ) → Wide a → Wide b → Wide c → in_turn (O a b) j k ≡ true → not (is_lt (O c b)) ≡ true → not (is_lt (O c a)) ≡ true
  same_place a b c j k x y z t n = go (O c a) refl
    where
      with : O c a ≡ Less → (o : Ordering) → O a b ≡ o → in_turn o j k ≡ true → ⊥
      with l Less e u = both_ways (not (is_lt (O c b))) (ap (λ o. not (is_lt o)) (Q.transitive c a b z x y l e)) n
      with l Equal e u = both_ways (not (is_lt (O c b))) (ap (λ o. not (is_lt o)) (ap (O c) (sym ((Q.equal a b x y).0 e)) ∙ l)) n
      with l Greater e u = both_ways false refl u

      go : (o : Ordering) → O c a ≡ o → not (is_lt o) ≡ true
      go Less e = absurd (with e (O a b) refl t)
      go Equal e = refl
      go Greater e = refl

  behind : (a c : List ℕ) (j k : ℕ) → Wide a → Wide c → j ≤ k → not (is_lt (O c a)) ≡ true → in_turn (O a c) j k ≡ true
  behind a c j k x z l n = ap (λ o. in_turn o j k) (Q.total c a z x) ∙ go (O c a) n
    where
      go : (o : Ordering) → not (is_lt o) ≡ true → in_turn (ordering_reverse o) j k ≡ true
      go Less e = absurd (both_ways false refl e)
      go Equal e = le-leb j k l
      go Greater e = refl

  before : (a c : List ℕ) (j k : ℕ) → not (is_lt (O c a)) ≡ false → in_turn (O c a) j k ≡ true
  before a c j k n = go (O c a) n
    where
      go : (o : Ordering) → not (is_lt o) ≡ false → in_turn o j k ≡ true
      go Less e = refl
      go Equal e = absurd (both_ways true e refl)
      go Greater e = absurd (both_ways true e refl)

raise_wide : (m : List ℕ) (v : ℕ) → Wide m → Wide (capped_raise m v)
raise_wide m v w = length-set m (v - 1) _ ∙ w

module _ (O : Compare) (Q : OrderLaws O) (n : ℕ) (leads : List (List ℕ)) (N : ℕ) (picks : List Pick) (p : Pick) (F : Filled O n leads N p.variable picks) (l : length leads ≡ N + 1) (r : p.row ≡ N + 1) (w : Within p.variable n) (e : p.height.exponents ≡ capped_raise (member leads p.row) p.variable) where
  tall : (i : ℕ) → i < length picks → Wide (pick_at picks i).height.exponents
  tall i h = subst Wide (sym (F.heights i h)) (raise_wide _ _ (F.wide _ (F.rows i h)))

  inside : Within p.row (length leads)
  inside = (omega (arith, r), omega (arith, r, l))

  tall_new : Wide p.height.exponents
  tall_new = subst Wide (sym e) (raise_wide _ _ (F.wide _ inside))

  any : (d : Pick) (i : ℕ) → i < length picks → get_or picks i d ≡ pick_at picks i
  any d i h = at picks i h
    where
      at : (xs : List Pick) (i : ℕ) → i < length xs → get_or xs i d ≡ get_or xs i no_pick
      at [] i h = absurd (omega (arith, h))
      at (x ∷ xs) zero h = refl
      at (x ∷ xs) (suc i) h = at xs i (omega (arith, h))

  pub parted : IsPartitionedBy (goes O p) picks
  parted i j d h k t =
      let m : i < length picks = omega (arith, h, k) in
      let u : goes O p (pick_at picks j) ≡ true = ap (goes O p) (sym (any d j k)) ∙ t in
      ap (goes O p) (any d i m) ∙ ⊎_elim
      (λ s. ap (λ x. goes O p (pick_at picks x)) s ∙ u)
      (λ s. same_place O Q (pick_at picks i).height.exponents (pick_at picks j).height.exponents p.height.exponents (pick_at picks i).row (pick_at picks j).row (tall i m) (tall j k) tall_new (F.rises i j (omega (arith, h, s)) k) u)
      (cases_eq i j)

  pub filled_more : (at : ℕ) → at ≤ length picks → IsPartitionPoint (λ y. goes O p y ≡ true) (λ y. goes O p y ≡ false) picks at → Filled O n leads N (p.variable + 1) (insert picks at p)
  filled_more at h (f, g) = record {
    wide = F.wide;
    rows = each picks at p h (λ x. Within x.row (length leads)) F.rows inside;
    variables = each picks at p h (λ x. Within x.variable n) F.variables w;
    heights = each picks at p h (λ x. x.height.exponents ≡ capped_raise (member leads x.row) x.variable) F.heights e;
    rises = each_two picks at p h (Turn O) F.rises
        (λ i b. let m : i < length picks = omega (arith, b, h) in behind O Q (pick_at picks i).height.exponents p.height.exponents (pick_at picks i).row p.row (tall i m) tall_new (omega (arith, F.rows i m, r, l)) (f i no_pick (omega arith) b))
        (λ i a b. before O Q (pick_at picks i).height.exponents p.height.exponents p.row (pick_at picks i).row (g i no_pick a b));
    all = λ k v x s. ⊎_elim (λ y. has_old picks at p k v (F.all k v x (inl y))) (λ y. ⊎_elim
        (λ d. has_new picks at p k v (ap₂ (λ a b. a && b) (eq-eqb p.row k (omega (arith, r, y.0))) (eq-eqb p.variable v (sym d))))
        (λ d. has_old picks at p k v (F.all k v x (inr (y.0, omega (arith, y.1, d)))))
        (cases_eq v p.variable)) s;
    few = (let a = length-insert picks at p h in let b = F.few in omega (arith, a, b));
  }

-- ---- one row more

pub filled_begin : (O : Compare) (n : ℕ) (leads : List (List ℕ)) (picks : List Pick) (m : List ℕ) → Queued O n leads picks → Wide m → Filled O n (leads ++ (m ∷ [])) (length leads) 1 picks
filled_begin O n leads picks m F w = record {
  wide = λ k x. ⊎_elim (λ h. subst Wide (sym (kept k x.0 h)) (F.wide k (x.0, omega (arith, h)))) (λ d. subst Wide (sym (get_or_push leads m [] (k - 1) (omega (arith, d, x, length-append leads (m ∷ []))))) w) (cases_lt (k - 1) (length leads));
  rows = λ i h. let x = F.rows i h in (x.0, omega (arith, x, length-append leads (m ∷ [])));
  variables = F.variables;
  heights = λ i h. F.heights i h ∙ ap (λ u. capped_raise u (pick_at picks i).variable) (let x = F.rows i h in sym (kept (pick_at picks i).row x.0 (omega (arith, x))));
  rises = F.rises;
  all = F.all;
  few = F.few;
}
  where
    kept : (k : ℕ) → 1 ≤ k → k - 1 < length leads → member (leads ++ (m ∷ [])) k ≡ member leads k
    kept k a h = get_or_append_left leads (m ∷ []) [] (k - 1) h

pub filled_end : (O : Compare) (n : ℕ) (leads : List (List ℕ)) (picks : List Pick) (m : List ℕ) → n ≤ width → Filled O n (leads ++ (m ∷ [])) (length leads) (n + 1) picks → Queued O n (leads ++ (m ∷ [])) picks
filled_end O n leads picks m b F = record {
  wide = F.wide;
  rows = F.rows;
  variables = F.variables;
  heights = F.heights;
  rises = F.rises;
  all = λ k v x s. F.all k v x (⊎_elim (λ y. ⊎_elim (λ h. inl (y.0, omega (arith, h))) (λ d. inr (omega (arith, y, d, long), omega (arith, x))) (cases_lt k (suc (length leads)))) (λ y. absurd (omega (arith, y.1, x.0))) s);
  few = (let a = F.few in omega (arith, a, long, b));
}
  where
    long : length (leads ++ (m ∷ [])) ≡ length leads + 1
    long = length-append leads (m ∷ [])
