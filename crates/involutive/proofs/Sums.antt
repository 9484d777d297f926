-- The heart of the theorem, over any ring, monomials, order and table: a sum of involutive multiples that is irreducible is 0, and by
-- a closed table every multiple of a row is such a sum.
use Rattle.std.proofs.Common.{◌≡◌, ◌⊎◌, sym, refl, ap, ◌∙◌, subst, subst₂, inl, inr, ⊎_elim}
use mathlib.Core.WellFounded.{Acc}
use Rattle.involutive.proofs.Algebra
use Rattle.involutive.proofs.Algebra.{Base}

module _ (B : Base) where
  open B use {K, 𝟘, 𝟙, ◌+◌, ◌*◌, M, one, ◌·◌, ·_comm, ·_assoc, one·, cancel, divide}

  infixl 60 ◌+◌
  infixl 70 ◌*◌
  infixl 70 ◌·◌
  infixl 60 ◌⊕◌
  abbrev pub V : Type 0
  V = Algebra.V B

  abbrev pub ◌⊕◌ : V → V → V
  ◌⊕◌ = Algebra.◌⊕◌ B

  abbrev pub 𝟎 : V
  𝟎 = Algebra.𝟎 B

  abbrev pub shift : K → M → V → V
  shift = Algebra.shift B

  pub record Chart : Type 1 where
    pub ◌≺◌ : M → M → Type 0
    pub ≺-trans : (u v m : M) → ◌≺◌ u v → ◌≺◌ v m → ◌≺◌ u m
    pub ≺-irr : (u : M) → ◌≺◌ u u → ⊥
    pub ≺-tri : (u m : M) → ◌≺◌ u m ⊎ ((u ≡ m) ⊎ ◌≺◌ m u)
    pub ≺-mul : (a u m : M) → ◌≺◌ u m → ◌≺◌ (a · u) (a · m)
    pub ≺-wf : (m : M) → Acc ◌≺◌ m
    pub ≺-one : (m : M) → (m ≡ one) ⊎ ◌≺◌ one m
    pub R : Type 0
    pub row : R → V
    pub lead : R → M
    pub lead_one : (k : R) → row k (lead k) ≡ 𝟙
    pub lead_top : (k : R) (m : M) → ◌≺◌ (lead k) m → row k m ≡ 𝟘
    -- every variable of the monomial is multiplicative for the row
    pub Mul : R → M → Type 0
    pub unique : (j k : R) (a b : M) → Mul j a → Mul k b → a · lead j ≡ b · lead k → j ≡ k

  module _ (C : Chart) where
    open C use {◌≺◌, ≺-trans, ≺-irr, ≺-tri, ≺-mul, ≺-wf, ≺-one, R, row, lead, lead_one, lead_top, Mul, unique}

    infixl 50 ◌≺◌
    -- a sum of involutive multiples of rows whose heights keep to Q
    pub data Sum (Q : M → Type 0) : V → Type 0 where
      nil : {v : V} → v ≡ 𝟎 → Sum Q v
      add : {v w : V} (c : K) (k : R) (a : M) → Mul k a → Q (a · lead k) → Sum Q w → v ≡ shift c a (row k) ⊕ w → Sum Q v

    abbrev pub Upto : M → M → Type 0
    Upto h m = (m ≺ h) ⊎ (m ≡ h)

    abbrev pub Below : M → M → Type 0
    Below h m = m ≺ h

    pub sum_map : {Q Q' : M → Type 0} {v : V} → ((m : M) → Q m → Q' m) → Sum Q v → Sum Q' v
    sum_map f (nil e) = nil e
    sum_map f (add c k a m q s e) = add c k a m (f _ q) (sum_map f s) e

    pub sum-⊕ : {Q : M → Type 0} {v w : V} → Sum Q v → Sum Q w → Sum Q (v ⊕ w)
    sum-⊕ {Q} {v} {w} (nil e) t = subst (Sum Q) (sym (Algebra.0⊕ B w) ∙ ap (λ x. x ⊕ w) (sym e)) t
    sum-⊕ {Q} {v} {w} (add {w = u} c k a m q s e) t = add c k a m q (sum-⊕ s t) (ap (λ x. x ⊕ w) e ∙ Algebra.⊕_assoc B (shift c a (row k)) u w)

    pub sum_scale : {Q : M → Type 0} {v : V} (d : K) → Sum Q v → Sum Q (shift d one v)
    sum_scale d (nil e) = nil (ap (shift d one) e ∙ Algebra.shift_0 B d one)
    sum_scale d (add {w = w} c k a m q s e) = add (d * c) k a m q (sum_scale d s) (cc (e, Algebra.shift-⊕ B d one (shift c a (row k)) w, Algebra.shift_shift B d c one a (row k), one· a))

    pub term_at : (c : K) (a : M) (k : R) → shift c a (row k) (a · lead k) ≡ c
    term_at c a k = Algebra.shift_at B c a (row k) (lead k) ∙ cc (lead_one k, B.*_comm c 𝟙, B.1* c)

    pub term_above : (c : K) (a : M) (k : R) (h : M) → a · lead k ≺ h → shift c a (row k) h ≡ 𝟘
    term_above c a k h l = go (divide a h)
      where
        go : Dec ((n : M) × (h ≡ a · n)) → shift c a (row k) h ≡ 𝟘
        go (no f) = Algebra.shift_off B c a (row k) h (λ n e. f (n, e))
        go (yes (n, e)) = ap (shift c a (row k)) e ∙ Algebra.shift_at B c a (row k) n ∙ ap (λ x. c * x) (lead_top k n (⊎_elim (λ p. p) (λ q. absurd (⊎_elim (λ z. ≺-irr h (subst (λ x. x ≺ h) (ap (λ x. a · x) z ∙ sym e) l)) (λ z. ≺-irr h (≺-trans h (a · lead k) h (subst (λ x. x ≺ a · lead k) (sym e) (≺-mul a n (lead k) z)) l)) q)) (≺-tri (lead k) n))) ∙ Algebra.*0 B c

    pub sum_above : {h : M} {v : V} → Sum (Below h) v → v h ≡ 𝟘
    unfolding Algebra.𝟎
    sum_above {h} (nil e) = ap (λ x. x h) e
    sum_above {h} (add {w = w} c k a m q s e) = ap (λ x. x h) e ∙ Algebra.⊕-at B (shift c a (row k)) w h ∙ cc (term_above c a k h q, sum_above s, B.0+ 𝟘)

    -- the multiples at the greatest height come to one
    record Gathered (k : R) (a : M) (v : V) : Type 0 where
      c : K
      w : V
      sum : Sum (Below (a · lead k)) w
      value : v ≡ shift c a (row k) ⊕ w

    gather : (k : R) (a : M) {v : V} → Mul k a → Sum (Upto (a · lead k)) v → Gathered k a v
    gather k a n (nil e) = record { c = 𝟘; w = 𝟎; sum = nil refl; value = e ∙ sym (ap (λ x. x ⊕ 𝟎) (Algebra.shift-𝟘 B a (row k)) ∙ Algebra.0⊕ B 𝟎) }
    gather k a n (add c j b m (inl l) s e) =
        let r = gather k a n s in
        record { c = r.c; w = shift c b (row j) ⊕ r.w; sum = add c j b m l r.sum refl; value = e ∙ ap (λ x. shift c b (row j) ⊕ x) r.value ∙ Algebra.⊕_left B _ _ _ }
    gather k a n (add c j b m (inr h) s e) =
        let r = gather k a n s in
        let p : j ≡ k = unique j k b a m n h in
        let q : b ≡ a = cancel (lead k) b a (·_comm (lead k) b ∙ ap (λ x. b · lead x) (sym p) ∙ h ∙ ·_comm a (lead k)) in
        record { c = c + r.c; w = r.w; sum = r.sum; value = e ∙ cc (p, q, r.value, Algebra.⊕_assoc B (shift c a (row k)) (shift r.c a (row k)) r.w, Algebra.shift-+ B c r.c a (row k)) }

    record Top (Q : M → Type 0) (v : V) : Type 0 where
      k : R
      a : M
      mul : Mul k a
      height : Q (a · lead k)
      sum : Sum (Upto (a · lead k)) v

    top : {Q : M → Type 0} {v : V} → Sum Q v → (v ≡ 𝟎) ⊎ Top Q v
    top (nil e) = inl e
    top {Q} {v} (add {w = w} c k a m q s e) = go (top s)
      where
        here : (w ≡ 𝟎) → Top Q v
        here z = record { k = k; a = a; mul = m; height = q; sum = add c k a m (inr refl) (nil z) e }

        go : (w ≡ 𝟎) ⊎ Top Q w → (v ≡ 𝟎) ⊎ Top Q v
        go (inl z) = inr (here z)
        go (inr t) = inr (⊎_elim
            (λ l. record { k = t.k; a = t.a; mul = t.mul; height = t.height; sum = add c k a m (inl l) t.sum e })
            (⊎_elim
            (λ z. record { k = t.k; a = t.a; mul = t.mul; height = t.height; sum = add c k a m (inr z) t.sum e })
            (λ l. record { k = k; a = a; mul = m; height = q; sum = add c k a m (inr refl) (sum_map (λ x. ⊎_elim (λ y. inl (≺-trans x _ _ y l)) (λ z. inl (subst (λ y. y ≺ a · lead k) (sym z) l))) t.sum) e }))
            (≺-tri (a · lead k) (t.a · lead t.k)))

    -- no involutive multiple's height has a coefficient
    abbrev pub Irreducible : V → Type 0
    Irreducible v = (k : R) (a : M) → Mul k a → v (a · lead k) ≡ 𝟘

    lower_at : {Q : M → Type 0} {v : V} (t : Top Q v) → v (t.a · lead t.k) ≡ 𝟘 → Sum (Below (t.a · lead t.k)) v
    lower_at {v = v} t z =
        let r = gather t.k t.a t.mul t.sum in
        let h : M = t.a · lead t.k in
        let c : r.c ≡ 𝟘 = sym (ap (λ x. x h) r.value ∙ Algebra.⊕-at B (shift r.c t.a (row t.k)) r.w h ∙ cc (term_at r.c t.a t.k, sum_above r.sum, Algebra.+0 B r.c)) ∙ z in
        subst (Sum (Below h)) (sym (r.value ∙ cc (c, Algebra.shift-𝟘 B t.a (row t.k), Algebra.0⊕ B r.w))) r.sum

    -- from one sum to another whose heights are lower, until P
    fall : (P : V → Type 0) (v : V) → (v ≡ 𝟎 → P v) → ((Q : M → Type 0) (t : Top Q v) → P v ⊎ (v (t.a · lead t.k) ≡ 𝟘)) → (h : M) → Acc ◌≺◌ h → Sum (Below h) v → P v
    fall P v z f h (Acc.intro _ g) s = go (λ t y. fall P v z f (t.a · lead t.k) (g _ t.height) (lower_at t y)) (top s)
      where
        go : ((t : Top (Below h) v) → v (t.a · lead t.k) ≡ 𝟘 → P v) → (v ≡ 𝟎) ⊎ Top (Below h) v → P v
        go rec (inl e) = z e
        go rec (inr t) = ⊎_elim (λ y. y) (λ y. rec t y) (f _ t)

    fall_from : (P : V → Type 0) (v : V) → (v ≡ 𝟎 → P v) → ((Q : M → Type 0) (t : Top Q v) → P v ⊎ (v (t.a · lead t.k) ≡ 𝟘)) → {Q : M → Type 0} → Sum Q v → P v
    fall_from P v z f s = ⊎_elim z (λ t. ⊎_elim (λ y. y) (λ y. fall P v z f (t.a · lead t.k) (≺-wf _) (lower_at t y)) (f _ t)) (top s)

    pub irreducible_zero : {Q : M → Type 0} {v : V} → Sum Q v → Irreducible v → v ≡ 𝟎
    irreducible_zero {v = v} s z = fall_from (λ v. v ≡ 𝟎) v (λ e. e) (λ Q t. inr (z t.k t.a t.mul)) s

    beneath : {Q : M → Type 0} {v : V} (t : Top Q v) (h : M) → t.a · lead t.k ≺ h → Sum (Below h) v
    beneath t h l = sum_map (λ x. ⊎_elim (λ y. ≺-trans x _ h y l) (λ e. subst (λ y. y ≺ h) (sym e) l)) t.sum

    -- the greatest monomial of a sum is the height of an involutive multiple
    pub record Led (m : M) : Type 0 where
      pub k : R
      pub a : M
      pub mul : Mul k a
      pub height : a · lead k ≡ m

    pub led : {Q : M → Type 0} {v : V} → Sum Q v → (m : M) → (v m ≡ 𝟘 → ⊥) → ((u : M) → m ≺ u → v u ≡ 𝟘) → Led m
    unfolding Algebra.𝟎
    led {v = v} s m n up = fall_from (λ x. Led m) v (λ e. absurd (n (ap (λ x. x m) e)))
        (λ Q t. ⊎_elim (λ l. absurd (n (sum_above (beneath t m l)))) (⊎_elim (λ e. inl (record { k = t.k; a = t.a; mul = t.mul; height = e })) (λ l. inr (up _ l))) (≺-tri (t.a · lead t.k) m)) s

    -- a sum that is 0 from h on has a form whose heights are below h
    pub sunk : {Q : M → Type 0} {v : V} → Sum Q v → (h : M) → ((m : M) → (m ≡ h) ⊎ (h ≺ m) → v m ≡ 𝟘) → Sum (Below h) v
    sunk {v = v} s h z = fall_from (λ v. Sum (Below h) v) v nil
        (λ Q t. ⊎_elim (λ l. inl (beneath t h l)) (λ g. inr (z _ g)) (≺-tri (t.a · lead t.k) h)) s

    pub raise : (a m : M) → (m ≡ a · m) ⊎ (m ≺ a · m)
    raise a m = ⊎_elim (λ e. inl (sym (one· m) ∙ ap (λ x. x · m) (sym e))) (λ l. inr (subst₂ ◌≺◌ (·_comm m one ∙ one· m) (·_comm m a) (≺-mul m one a l))) (≺-one a)

    -- a value of G that leads as row k does, and differs from it by a sum
    pub record Start (G : V → Type 0) (k : R) : Type 0 where
      pub value : V
      pub inside : G value
      pub one_at : value (lead k) ≡ 𝟙
      pub top_at : (m : M) → lead k ≺ m → value m ≡ 𝟘
      pub sum : Sum (λ m. Unit) (row k ⊕ Algebra.⊖ B value)

    module _ (G : V → Type 0) (g_zero : (v : V) → v ≡ 𝟎 → G v) (G-⊕ : (v w : V) → G v → G w → G (v ⊕ w)) (g_shift : (c : K) (a : M) (v : V) → G v → G (shift c a v)) where
      gathers : (h : M) → ((j : R) → lead j ≺ h → G (row j)) → {v : V} → Sum (Below h) v → G v
      gathers h g (nil e) = g_zero _ e
      gathers h g (add {v = v} {w = w} c k a m q s e) =
          let l : lead k ≺ h = ⊎_elim (λ d. subst (λ x. x ≺ h) (sym d) q) (λ d. ≺-trans _ _ h d q) (raise a (lead k)) in
          subst G (sym e) (G-⊕ _ _ (g_shift c a _ (g k l)) (gathers h g s))

      generate : ((k : R) → ((j : R) → lead j ≺ lead k → G (row j)) → Start G k) → (h : M) → Acc ◌≺◌ h → (k : R) → lead k ≡ h → G (row k)
      generate start h (Acc.intro _ f) k e = go (λ j l. generate start (lead j) (f (lead j) l) j refl)
        where
          go : ((j : R) → lead j ≺ h → G (row j)) → G (row k)
          go rec =
              let s = start k (λ j l. rec j (subst (λ x. lead j ≺ x) e l)) in
              let z : (m : M) → (m ≡ h) ⊎ (h ≺ m) → (row k ⊕ Algebra.⊖ B s.value) m ≡ 𝟘 = λ m c. Algebra.minus_same B (row k) s.value m (⊎_elim
              (λ d. ap (row k) (d ∙ sym e) ∙ lead_one k ∙ sym s.one_at ∙ ap s.value (sym (d ∙ sym e)))
              (λ d. let l : lead k ≺ m = subst (λ x. x ≺ m) (sym e) d in lead_top k m l ∙ sym (s.top_at m l)) c) in
              subst G (Algebra.rejoin B (row k) s.value) (G-⊕ _ _ s.inside (gathers h rec (sunk s.sum h z)))

      pub generated : ((k : R) → ((j : R) → lead j ≺ lead k → G (row j)) → Start G k) → (k : R) → G (row k)
      generated start k = generate start (lead k) (≺-wf _) k refl

    -- a multiple of row k that is not involutive: an involutive one of the same height and lower ones
    pub record Prolongation (Next : R → R → Type 0) (k : R) (a : M) : Type 0 where
      pub x : M
      pub rest : M
      pub is : a ≡ rest · x
      pub c : K
      pub j : R
      pub b : M
      pub next : Next k j
      pub mul : Mul j b
      pub height : b · lead j ≡ x · lead k
      pub w : V
      pub small : Sum (Below (x · lead k)) w
      pub value : shift 𝟙 x (row k) ≡ shift c b (row j) ⊕ w

    -- a sum with a coefficient at the greatest height allowed has a multiple there
    pub record Headed (h : M) (v : V) : Type 0 where
      pub c : K
      pub j : R
      pub b : M
      pub mul : Mul j b
      pub height : b · lead j ≡ h
      pub w : V
      pub small : Sum (Below h) w
      pub value : v ≡ shift c b (row j) ⊕ w

    pub headed : (h : M) (v : V) → Sum (Upto h) v → (v h ≡ 𝟘 → ⊥) → Headed h v
    unfolding Algebra.𝟎
    headed h v s z = go (top s)
      where
        go : (v ≡ 𝟎) ⊎ Top (Upto h) v → Headed h v
        go (inl e) = absurd (z (ap (λ x. x h) e))
        go (inr t) = ⊎_elim
            (λ l. absurd (z (sum_above (sum_map (λ x. ⊎_elim (λ y. ≺-trans x _ h y l) (λ e. subst (λ y. y ≺ h) (sym e) l)) t.sum))))
            (λ e. let r = gather t.k t.a t.mul t.sum in
            record { c = r.c; j = t.k; b = t.a; mul = t.mul; height = e; w = r.w; small = subst (λ x. Sum (Below x) r.w) e r.sum; value = r.value })
            t.height

    -- what a closed table gives: the prolongations by variables that are not multiplicative are sums no higher than they are
    pub prolongation : (𝟙 ≡ 𝟘 → ⊥) → {Next : R → R → Type 0} (k : R) (a x rest : M) → a ≡ rest · x → Sum (Upto (x · lead k)) (shift 𝟙 x (row k)) → ((j : R) (b : M) → Mul j b → b · lead j ≡ x · lead k → Next k j) → Prolongation Next k a
    prolongation d k a x rest e s n =
        let r = headed (x · lead k) (shift 𝟙 x (row k)) s (λ z. d (sym (term_at 𝟙 x k) ∙ z)) in
        record { x = x; rest = rest; is = e; c = r.c; j = r.j; b = r.b; next = n r.j r.b r.mul r.height; mul = r.mul; height = r.height; w = r.w; small = r.small; value = r.value }

    module _ (Next : R → R → Type 0) (next_wf : (k : R) → Acc (λ j k. Next k j) k) (split : (k : R) (a : M) → Mul k a ⊎ Prolongation Next k a) where
      shift_apart : (c : K) (a b : M) (v : V) → shift 𝟙 a (shift c b v) ≡ shift c one (shift 𝟙 (a · b) v)
      shift_apart c a b v = Algebra.shift_shift B 𝟙 c a b v ∙ sym (Algebra.shift_shift B c 𝟙 one (a · b) v ∙ cc (one· (a · b), B.*_comm c 𝟙))

      up : {h : M} {v : V} (m : M) → m ≺ h → Sum (Upto m) v → Sum (Upto h) v
      up {h} m l = sum_map (λ x. ⊎_elim (λ y. inl (≺-trans x m h y l)) (λ z. inl (subst (λ y. y ≺ h) (sym z) l)))

      -- a multiple of a sum whose heights stay below
      lifted : (h u a : M) → a · u ≡ h → ((m : M) → m ≺ h → (k : R) (b : M) → b · lead k ≡ m → Sum (Upto m) (shift 𝟙 b (row k))) → {w : V} → Sum (Below u) w → Sum (Upto h) (shift 𝟙 a w)
      lifted h u a e ih (nil z) = nil (ap (shift 𝟙 a) z ∙ Algebra.shift_0 B 𝟙 a)
      lifted h u a e ih (add {v = v} {w = w} c k b m l s z) =
          let q : (a · b) · lead k ≺ h = subst (λ x. x ≺ h) (sym (·_assoc a b (lead k))) (subst (λ x. a · (b · lead k) ≺ x) e (≺-mul a (b · lead k) u l)) in
          subst (Sum (Upto h)) (sym (ap (shift 𝟙 a) z ∙ Algebra.shift-⊕ B 𝟙 a (shift c b (row k)) w ∙ ap (λ x. x ⊕ shift 𝟙 a w) (shift_apart c a b (row k))))
          (sum-⊕ (sum_scale c (up _ q (ih _ q k (a · b) refl))) (lifted h u a e ih s))

      inner : (h : M) → ((m : M) → m ≺ h → (k : R) (b : M) → b · lead k ≡ m → Sum (Upto m) (shift 𝟙 b (row k))) → (k : R) → Acc (λ j k. Next k j) k → (a : M) → a · lead k ≡ h → Sum (Upto h) (shift 𝟙 a (row k))
      inner h ih k (Acc.intro _ f) a e = ⊎_elim (λ m. add 𝟙 k a m (inr e) (nil refl) (sym (Algebra.⊕0 B _))) (λ p. go p (λ b d. inner h ih p.j (f p.j p.next) b d)) (split k a)
        where
          go : (p : Prolongation Next k a) → ((b : M) → b · lead p.j ≡ h → Sum (Upto h) (shift 𝟙 b (row p.j))) → Sum (Upto h) (shift 𝟙 a (row k))
          go p rec =
              let t : p.rest · (p.x · lead k) ≡ h = sym (·_assoc p.rest p.x (lead k)) ∙ ap (λ y. y · lead k) (sym p.is) ∙ e in
              let u : (p.rest · p.b) · lead p.j ≡ h = ·_assoc p.rest p.b (lead p.j) ∙ ap (λ y. p.rest · y) p.height ∙ t in
              let first : Sum (Upto h) (shift 𝟙 p.rest (shift p.c p.b (row p.j))) = subst (Sum (Upto h)) (sym (shift_apart p.c p.rest p.b (row p.j))) (sum_scale p.c (rec (p.rest · p.b) u)) in
              let second : Sum (Upto h) (shift 𝟙 p.rest p.w) = lifted h (p.x · lead k) p.rest t ih p.small in
              subst (Sum (Upto h)) (sym (Algebra.shift-⊕ B 𝟙 p.rest (shift p.c p.b (row p.j)) p.w) ∙ ap (shift 𝟙 p.rest) (sym p.value) ∙ Algebra.shift_shift B 𝟙 𝟙 p.rest p.x (row k) ∙ cc (B.1* 𝟙, p.is)) (sum-⊕ first second)

      outer : (h : M) → Acc ◌≺◌ h → (k : R) (a : M) → a · lead k ≡ h → Sum (Upto h) (shift 𝟙 a (row k))
      outer h (Acc.intro _ f) k a e = inner h (λ m l k b d. outer m (f m l) k b d) k (next_wf k) a e

      -- every multiple of a row is a sum of involutive multiples
      pub tame : (c : K) (k : R) (a : M) → Sum (Upto (a · lead k)) (shift c a (row k))
      tame c k a = subst (Sum (Upto (a · lead k))) (Algebra.shift_shift B c 𝟙 one a (row k) ∙ cc (one· a, B.*_comm c 𝟙, B.1* c)) (sum_scale c (outer (a · lead k) (≺-wf _) k a refl))
