-- A table of monic rows with distinct leading monomials, and what reducing by it leaves.
use Rattle.std.proofs.Common.{◌≡◌, ℕ, ◌-◌, ◌<◌, Bool, true, ◌⊎◌, List, [], ◌∷◌, ◌++◌, map, length, take, drop, Some, sym, refl, ap, ◌∙◌, subst, inl, inr, ⊎_elim, arith}
use mathlib.Core.HLevel.{Σ_prop_path, ×_prop}
use mathlib.Core.List.Memᴰ
use mathlib.Core.List.{Memᴰ}
use mathlib.Core.WellFounded.InvImage
use native.Mathlib.Bridge.{le_prop}
use lib.ListN.{length-map}
use Rattle.std.proofs.lemmas.List.{get_or-map}
use Rattle.monomial.specs.Division.{Within, Distinct, Involutive, member}
use Rattle.monomial.specs.Monomial.{width, exponent, variable, quotient, Divides}
use Rattle.involutive.specs.Value
use Rattle.polynomial.specs.Polynomial
use Rattle.polynomial.specs.Polynomial.{Poly, term, exponents}
use Rattle.involutive.specs.Sheet.{Setting, Lawful}
use Rattle.involutive.specs.Sound.{Row, Sound}
use Rattle.involutive.specs.Reduction.{Irreducible, row, leaders, Outcome, left, Reduces, done, wide, long, acts}
use Rattle.involutive.proofs.Algebra
use Rattle.involutive.proofs.Algebra.{Base, Span}
use Rattle.involutive.proofs.Sums
use Rattle.involutive.proofs.Monomials
use Rattle.involutive.proofs.Monomials.{Mono}
use Rattle.involutive.proofs.Typing
use Rattle.involutive.proofs.Typing.{ground_of, words, Code, base, Beneath}
use Rattle.involutive.proofs.WrittenLists
use Rattle.involutive.proofs.Lists

module _ (S : Setting) (W : Lawful S) where
  open S use {field as F, variables as N, order as O, division as D}
  open W use {order as Q, division as E}
  open words (ground_of S W) use {ground, B, Typed, raw, lead, minus, Sorted, nth}

  pub record Monic (p : Typed) : Type 0 where
    pub head : Code F × Mono N
    pub tail : Typed
    pub is : p ≡ head ∷ tail
    pub one : head.0 ≡ B.𝟙
    pub sorted : Sorted (head ∷ tail)

  pub sorted_parts : {t : Code F × Mono N} {f : Typed} → Sorted (t ∷ f) → Algebra.Below B (Beneath N O) t.1 f × Sorted f × (t.0 ≡ B.𝟘 → ⊥)
  sorted_parts (Algebra.more_sorted n b s) = (b, s, n)

  pub monic_one : {p : Typed} → Monic p → Algebra.at B p (lead p) ≡ B.𝟙
  monic_one m = rw m.is (Algebra.at_top B (Beneath N O) (WrittenLists.line ground) m.head m.tail (sorted_parts m.sorted).0 ∙ m.one)

  pub monic_top : {p : Typed} (u : Mono N) → Monic p → Beneath N O (lead p) u → Algebra.at B p u ≡ B.𝟘
  monic_top {p} u m = rw m.is (λ h. Algebra.at_below B (Beneath N O) (WrittenLists.line ground) (Algebra.more_below h (Algebra.below_up B (Beneath N O) (WrittenLists.line ground) h (sorted_parts m.sorted).0)))

  pub record Good (T : List Typed) : Type 0 where
    pub monic : (p : Typed) → Memᴰ p T → Monic p
    pub once : (j k : ℕ) → Within j (length T) → Within k (length T) → lead (nth T j) ≡ lead (nth T k) → j ≡ k

  typed_monic : (p : Typed) → Row S (raw p) → Monic p
  typed_monic [] r = absurd (omega (arith, r.monic))
  typed_monic (u ∷ p) r = record { head = u; tail = p; is = refl; one = Typing.code_eq r.monic; sorted = WrittenLists.written_sorted ground (u ∷ p) r.acceptable.written }

  -- the rows of a sound sheet are such a table
  pub typed_good : (T : List Typed) (m : ℕ → ℕ → Bool) → Sound S (record { rows = map raw T; marks = m }) → Good T
  typed_good T m I = record {
    monic = λ p h. typed_monic p (I.each (raw p) (Memᴰ.map raw h));
    once = λ j k w v e. I.once j k (rw (length-map T raw) w) (rw (length-map T raw) v) (Typing.row_lead ground T (j - 1) ∙ ap (λ x. x.0) e ∙ sym (Typing.row_lead ground T (k - 1)));
  }

  module _ (T : List Typed) (G : Good T) where
    abbrev pub U : List (List ℕ)
    U = leaders (map raw T)

    size : length U ≡ length T
    size = simp length-map

    pub member_lead : (k : ℕ) → Within k (length T) → member U k ≡ (lead (nth T k)).0
    member_lead k w = get_or-map Polynomial.leading (map raw T) (k - 1) [] [] (omega (arith, length-map T raw)) ∙ Typing.row_lead ground T (k - 1)

    pub in_u : {k : ℕ} → Within k (length T) → Within k (length U)
    in_u w = rw size w

    pub out_u : {k : ℕ} → Within k (length U) → Within k (length T)
    out_u w = rw size at w

    pub distinct : Distinct U
    distinct = record {
      wide = λ k w. rw (member_lead k (out_u w)) (lead (nth T k)).1.wide;
      once = λ j k w v e. G.once j k (out_u w) (out_u v) (Monomials.mono_eq (sym (member_lead j (out_u w)) ∙ e ∙ member_lead k (out_u v)));
    }

    abbrev pub R : Type 0
    R = (k : ℕ) × Within k (length T)

    abbrev pub Mul : R → Mono N → Type 0
    Mul k a = (v : ℕ) → Within v N → 0 < exponent a.0 v → D U k.0 v ≡ Some true

    pub involutive : (k : R) (a : Mono N) → Mul k a → Involutive D U k.0 (Monomials.mul a (lead (nth T k.0))).0
    involutive k a m =
        let l : Mono N = lead (nth T k.0) in
        let e : member U k.0 ≡ l.0 = member_lead k.0 k.1 in
        let within : (v : ℕ) → Within v width → 0 < exponent a.0 v → D U k.0 v ≡ Some true = λ v w h. m v (w.0, Monomials.inside a v h) h in
        let q : Monomials.over (Monomials.mul a l) l ≡ a = ap (λ x. Monomials.over x l) (Monomials.mul_comm a l) ∙ Monomials.over_mul l a in
        record {
          within = in_u k.1;
          divides = subst (λ x. Divides x (Monomials.mul a l).0) (sym e) (subst (λ x. Divides l.0 x.0) (Monomials.mul_comm l a) (Monomials.divides_mul l a));
          multiplicative = λ v w h. within v w (subst (λ x. 0 < exponent x.0 v) q (subst (λ x. 0 < exponent (quotient (Monomials.mul a l).0 x) v) e h));
        }

    row_eq : {j k : R} → j.0 ≡ k.0 → j ≡ k
    row_eq e = Σ_prop_path (λ k. ×_prop le_prop le_prop) e

    -- involutive multiples of one height are of one row: the law that no monomial has two involutive divisors
    pub unique : (j k : R) (a b : Mono N) → Mul j a → Mul k b → Monomials.mul a (lead (nth T j.0)) ≡ Monomials.mul b (lead (nth T k.0)) → j ≡ k
    unique j k a b m n e = row_eq (E.no_two U distinct (Monomials.mul a (lead (nth T j.0))).0 (Monomials.mul a (lead (nth T j.0))).1.wide j.0 k.0 (involutive j a m) (subst (λ x. Involutive D U k.0 x.0) (sym e) (involutive k b n)))

    pub monic_at : (k : R) → Monic (nth T k.0)
    monic_at k = G.monic (nth T k.0) (Lists.entry_member [] T (k.0 - 1) (omega arith))

    pub under_one : (m : Mono N) → Dec (m ≡ Monomials.unit) → (m ≡ Monomials.unit) ⊎ Beneath N O Monomials.unit m
    under_one m (yes e) = inl e
    under_one m (no n) = inr (Q.least m.0 m.1.wide (λ e. n (Monomials.mono_eq e)))

    abbrev pub chart : Sums.Chart B
    chart = record {
      ◌≺◌ = Beneath N O;
      ≺-trans = WrittenLists.under_trans ground;
      ≺-irr = WrittenLists.under_irr ground;
      ≺-tri = WrittenLists.under_tri ground;
      ≺-mul = λ a u m h. Q.factor a.0 u.0 m.0 a.1.wide u.1.wide m.1.wide ∙ h;
      ≺-wf = λ m. InvImage.accessible (λ m. (m.0, m.1.wide)) (Q.falls.apply (m.0, m.1.wide));
      ≺-one = λ m. under_one m (Monomials.same? m Monomials.unit);
      R = R;
      row = λ k. Algebra.at B (nth T k.0);
      lead = λ k. lead (nth T k.0);
      lead_one = λ k. monic_one (monic_at k);
      lead_top = λ k m h. monic_top m (monic_at k) h;
      Mul = Mul;
      unique = unique;
    }

    abbrev pub SumUpto : Mono N → Algebra.V B → Type 0
    SumUpto H v = Sums.Sum B chart (Sums.Upto B chart H) v

    -- a term's involutive divisor, as a row and a multiplier
    record Divisor (u : Mono N) : Type 0 where
      k : R
      a : Mono N
      mul : Mul k a
      height : Monomials.mul a (lead (nth T k.0)) ≡ u

    divisor : (u : Mono N) (k : ℕ) → Involutive D U k u.0 → Divisor u
    divisor u k i =
        let w : Within k (length T) = out_u i.within in
        let e : member U k ≡ (lead (nth T k)).0 = member_lead k w in
        let l : Mono N = lead (nth T k) in
        record {
          k = (k, w);
          a = Monomials.over u l;
          mul = λ v q h. i.multiplicative v (q.0, omega arith) (subst (λ x. 0 < exponent (quotient u.0 x) v) (sym e) h);
          height = Monomials.mul_comm (Monomials.over u l) l ∙ Monomials.mul_over l u (subst (λ x. Divides x u.0) e i.divides);
        }

    pub record Reduced (H : Mono N) (p : Typed) (g : Poly) : Type 0 where
      pub poly : Typed
      pub is : raw poly ≡ g
      pub sorted : Sorted poly
      pub sum : Sums.Sum B chart (Sums.Upto B chart H) (minus p poly)
      pub irreducible : Irreducible F O D N (map raw T) g

    Bounded : Mono N → Typed → Type 0
    Bounded H p = (m : Mono N) → Beneath N O H m → Algebra.at B p m ≡ B.𝟘

    under_bound : (H : Mono N) (p : Typed) (u : Code F × Mono N) → Sorted p → Bounded H p → Memᴰ u p → Sums.Upto B chart H u.1
    unfolding Bounded
    under_bound H p u s b h =
        let r = Algebra.sorted_at B (Beneath N O) (WrittenLists.line ground) u s h in
        ⊎_elim (λ l. inl l) (⊎_elim (λ e. inr e) (λ l. absurd (r.1 (sym r.0 ∙ b u.1 l)))) (WrittenLists.under_tri ground u.1 H)

    reduced : {room : ℕ} {h : Poly} {o : Outcome} → Reduces F O D N (map raw T) room h o → (H : Mono N) (p : Typed) → raw p ≡ h → Sorted p → Bounded H p → (g : Poly) → o ≡ left g → Reduced H p g
    unfolding Bounded divisor
    reduced (done i) H p e s b g d =
        let f : raw p ≡ g = cc in
        record { poly = p; is = f; sorted = s; sum = Sums.nil (Algebra.⊕-⊖ B (Algebra.at B p)); irreducible = subst (Irreducible F O D N (map raw T)) (sym e ∙ f) i }
    reduced (wide r f) H p e s b g d = cc
    reduced (long r f x l) H p e s b g d = cc
    reduced (acts {h = h} {g = g'} {t = t} {k = k} r f x l more) H p e s b g d =
        let u = Typing.raw_term ground p {t = t} (rw e r.stands) in
        let q = Typing.typed ground g' x.written.over in
        let v = divisor u.0.1 k (subst (λ y. Involutive D U k (exponents y)) u.2 r.divisor) in
        let w : Algebra.at B q.0 ≡ Algebra.◌⊕◌ B (Algebra.at B p) (Algebra.⊖ B (Algebra.shift B u.0.0 v.a (Algebra.at B (nth T k)))) = Typing.action_value ground D T p q.0 u.0 k (rw (e, q.1, ← u.2) x) in
        let n : Sums.Upto B chart H (Monomials.mul v.a (lead (nth T k))) = subst (Sums.Upto B chart H) (sym v.height) (under_bound H p u.0 s b u.1) in
        let above : (m : Mono N) → Beneath N O H m → Beneath N O (Monomials.mul v.a (lead (nth T k))) m = λ m y. ⊎_elim (λ z. WrittenLists.under_trans ground (Monomials.mul v.a (lead (nth T k))) H m z y) (λ z. subst (λ x. Beneath N O x m) (sym z) y) n in
        let b' : Bounded H q.0 = λ m y. ap (λ z. z m) w ∙ Algebra.minus_off B (Algebra.at B p) (Algebra.shift B u.0.0 v.a (Algebra.at B (nth T k))) m (b m y) (Sums.term_above B chart u.0.0 v.a v.k m (above m y)) in
        let z = reduced more H q.0 q.1 (WrittenLists.written_sorted ground q.0 (rw q.1 x.written)) b' g d in
        record {
          poly = z.poly;
          is = z.is;
          sorted = z.sorted;
          irreducible = z.irreducible;
          sum = Sums.add {v = minus p z.poly} {w = minus q.0 z.poly} u.0.0 v.k v.a v.mul n z.sum (Algebra.minus_through B (Algebra.at B p) (Algebra.at B q.0) (Algebra.shift B u.0.0 v.a (Algebra.at B (nth T k))) (Algebra.at B z.poly) w);
        }

    -- what is left of terms below h is below h
    reduces_nil : {room : ℕ} {h : Poly} {o : Outcome} → Reduces F O D N (map raw T) room h o → h ≡ [] → (g : Poly) → o ≡ left g → g ≡ []
    reduces_nil (done i) e g d = cc
    reduces_nil (wide r f) e g d = cc
    reduces_nil (long r f x l) e g d = cc
    reduces_nil (acts {t = t} r f x l more) e g d = absurd (Memᴰ.not-nil (subst (Memᴰ t) e r.stands))

    below_all : (h : Mono N) (q : Typed) → ((t : Code F × Mono N) → Memᴰ t q → Beneath N O t.1 h) → Algebra.Below B (Beneath N O) h q
    below_all h [] f = Algebra.none_below
    below_all h (t ∷ q) f = Algebra.more_below (f t (Memᴰ.head refl)) (below_all h q (λ u k. f u (Memᴰ.tail k)))

    sum_span : {X : Mono N → Type 0} {v : Algebra.V B} → Sums.Sum B chart X v → Span B T v
    sum_span (Sums.nil e) = Algebra.none e
    sum_span (Sums.add c k a m q s e) = Algebra.more c a (Lists.entry_member [] T (k.0 - 1) (omega arith)) (sum_span s) e

    -- what is left of p; where p's terms stand below a monomial, so do its own
    pub record LeftOver (p : Typed) (g : Poly) : Type 0 where
      pub poly : Typed
      pub is : raw poly ≡ g
      pub sorted : Sorted poly
      pub irreducible : Irreducible F O D N (map raw T) g
      pub span : Span B T (minus p poly)
      pub below : (h : Mono N) → Algebra.Below B (Beneath N O) h p → Algebra.Below B (Beneath N O) h poly

    first_below : {h : Mono N} {u : Code F × Mono N} {p : Typed} → Algebra.Below B (Beneath N O) h (u ∷ p) → Beneath N O u.1 h
    first_below (Algebra.more_below l b) = l

    pub left_over : {room : ℕ} (p : Typed) {g : Poly} → Reduces F O D N (map raw T) room (raw p) (left g) → Sorted p → LeftOver p g
    unfolding Bounded
    left_over [] {g} r s =
        let e : [] ≡ g = sym (reduces_nil r refl g refl) in
        record { poly = []; is = e; sorted = Algebra.none_sorted; irreducible = subst (Irreducible F O D N (map raw T)) e (λ t h. elim h [ ]); span = Algebra.none (Algebra.⊕-⊖ B (Algebra.at B [])); below = λ h b. b }
    left_over (u ∷ p) {g} r s =
        let H : Mono N = u.1 in
        let above : Bounded H (u ∷ p) = λ m y. Algebra.at_below B (Beneath N O) (WrittenLists.line ground) (Algebra.more_below y (Algebra.below_up B (Beneath N O) (WrittenLists.line ground) y (sorted_parts s).0)) in
        let z = reduced r H (u ∷ p) refl s above g refl in
        let still : Bounded H z.poly = λ m y. sym (Algebra.at_same B (Algebra.at B (u ∷ p)) (Algebra.at B z.poly) m (Sums.sum_above B chart (Sums.sum_map B chart (λ x. ⊎_elim (λ q. WrittenLists.under_trans ground x H m q y) (λ q. subst (λ k. Beneath N O k m) (sym q) y)) z.sum))) ∙ above m y in
        record {
          poly = z.poly;
          is = z.is;
          sorted = z.sorted;
          irreducible = z.irreducible;
          span = sum_span z.sum;
          below = λ h b. let l = first_below b in
              below_all h z.poly (λ t k. ⊎_elim (λ q. WrittenLists.under_trans ground t.1 H h q l) (λ q. subst (λ x. Beneath N O x h) (sym q) l) (under_bound H z.poly t z.sorted still k));
        }

    -- a row whose terms but the first are reduced
    pub record Tidied (k : R) (f : Poly) : Type 0 where
      pub poly : Typed
      pub is : raw poly ≡ f
      pub monic : Monic poly
      pub leads : lead poly ≡ lead (nth T k.0)
      pub span : Span B T (minus (nth T k.0) poly)

    pub tidied : {room : ℕ} (k : R) {g : Poly} → Reduces F O D N (map raw T) room (drop 1 (row (map raw T) k.0)) (left g) → Tidied k (take 1 (row (map raw T) k.0) ++ g)
    unfolding Algebra.at
    tidied {room} k {g} r =
        let m = monic_at k in
        let e : row (map raw T) k.0 ≡ raw (m.head ∷ m.tail) = Typing.raw_row ground T (k.0 - 1) ∙ ap raw m.is in
        let parts = sorted_parts m.sorted in
        let z = left_over m.tail (subst (λ x. Reduces F O D N (map raw T) room (drop 1 x) (left g)) e r) parts.1 in
        record {
          poly = m.head ∷ z.poly;
          is = ap {B = Poly} (λ x. term m.head.0.0 m.head.1.0 ∷ x) z.is ∙ ap (λ x. take 1 x ++ g) (sym e);
          monic = record { head = m.head; tail = z.poly; is = refl; one = m.one; sorted = Algebra.more_sorted parts.2 (z.below m.head.1 parts.0) z.sorted };
          leads = ap lead (sym m.is);
          span = subst (λ x. Span B T (minus x (m.head ∷ z.poly))) (sym m.is) (subst (Span B T) (sym (Algebra.minus_front B (Algebra.single B m.head.0 m.head.1) (Algebra.at B m.tail) (Algebra.at B z.poly))) z.span);
        }

    below_shift : (x m : Mono N) {f : Typed} → Algebra.Below B (Beneath N O) m f → Algebra.Below B (Beneath N O) (Monomials.mul x m) (Algebra.scaled B B.𝟙 x f)
    unfolding Algebra.scaled
    below_shift x m Algebra.none_below = Algebra.none_below
    below_shift x m (Algebra.more_below {t = t} h b) = Algebra.more_below (Q.factor x.0 t.1.0 m.0 x.1.wide t.1.1.wide m.1.wide ∙ h) (below_shift x m b)

    sorted_shift : (x : Mono N) {f : Typed} → Sorted f → Sorted (Algebra.scaled B B.𝟙 x f)
    unfolding Algebra.scaled
    sorted_shift x Algebra.none_sorted = Algebra.none_sorted
    sorted_shift x (Algebra.more_sorted {t = t} n b s) = Algebra.more_sorted (λ e. n (sym (B.1* t.0) ∙ e)) (below_shift x t.1 b) (sorted_shift x s)

    -- the prolongation of row k by a variable, if it reduces to nothing, is a sum no higher than it is
    pub prolonged_sum : {room : ℕ} (k : R) (v : ℕ) (vn : Within v N) → Reduces F O D N (map raw T) room (Value.scaled F 1 (variable v) (row (map raw T) k.0)) (left []) → SumUpto (Monomials.mul (Monomials.var v vn) (lead (nth T k.0))) (Algebra.shift B B.𝟙 (Monomials.var v vn) (Algebra.at B (nth T k.0)))
    unfolding Bounded
    prolonged_sum {room} k v vn r =
        let y : Typed = nth T k.0 in
        let p : Typed = Algebra.scaled B B.𝟙 (Monomials.var v vn) y in
        let H : Mono N = Monomials.mul (Monomials.var v vn) (lead y) in
        let e : raw p ≡ Value.scaled F 1 (variable v) (row (map raw T) k.0) = Typing.raw_scaled ground B.𝟙 (Monomials.var v vn) y ∙ ap (Value.scaled F 1 (variable v)) (sym (Typing.raw_row ground T (k.0 - 1))) in
        let a : Algebra.at B p ≡ Algebra.shift B B.𝟙 (Monomials.var v vn) (Algebra.at B y) = Algebra.at_scaled B B.𝟙 (Monomials.var v vn) y in
        let m = monic_at k in
        let z = reduced r H p e (sorted_shift (Monomials.var v vn) (subst Sorted (sym m.is) m.sorted)) (λ u h. ap (λ x. x u) a ∙ Sums.term_above B chart B.𝟙 (Monomials.var v vn) k u h) [] refl in
        subst (SumUpto H) (ap (λ x. Algebra.◌⊕◌ B (Algebra.at B p) (Algebra.⊖ B x)) (Typing.nothing ground z.poly z.is) ∙ ap (Algebra.◌⊕◌ B (Algebra.at B p)) (Algebra.⊖-0 B) ∙ Algebra.⊕0 B (Algebra.at B p) ∙ a) z.sum
