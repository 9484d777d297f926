-- Sums, multiples and members of ideals, over lists of terms.
use Rattle.std.proofs.Common.{◌≡◌, ℕ, ◌<◌, List, [], ◌∷◌, ◌++◌, map, sym, refl, ap, ◌∙◌, subst, subst₂, ⊎_elim}
use mathlib.Core.List.Memᴰ
use mathlib.Core.List.{Memᴰ}
use Rattle.field.specs.Field.{FieldMeaning}
use Rattle.monomial.specs.Monomial.{In, one, times}
use Rattle.polynomial.specs.declared.term.Term.{Term}
use Rattle.polynomial.specs.Polynomial.{Poly, exponents, Over}
use Rattle.involutive.specs.Value.{at, Equal, plus, minus, scaled, negated, product}
use Rattle.involutive.specs.Ideal.{Member, SameIdeal}
use Rattle.involutive.proofs.Algebra
use Rattle.involutive.proofs.Algebra.{Base, Span}
use Rattle.involutive.proofs.Monomials
use Rattle.involutive.proofs.Monomials.{Mono}
use Rattle.involutive.proofs.Typing
use Rattle.involutive.proofs.Membership
use Rattle.involutive.proofs.Typing.{Ground, words, Code, base}

abbrev pub Overs : FieldMeaning → ℕ → List Poly → Type 0
Overs F N gs = (g : Poly) → Memᴰ g gs → Over F N g

module _ (ground : Ground) where
  open ground use {field as F, variables as N}
  open words ground use {B, Typed, raw}

  -- what holds of every typed polynomial holds of every polynomial over F
  pub each : (Q : Poly → Type 0) → ((p : Typed) → Q (raw p)) → (f : Poly) → Over F N f → Q f
  each Q h f o = let p = Typing.typed ground f o in subst Q p.1 (h p.0)

  pub eachs : (Q : List Poly → Type 0) → ((ps : List Typed) → Q (map raw ps)) → (fs : List Poly) → Overs F N fs → Q fs
  eachs Q h fs o = let p = Typing.typeds ground fs o in subst Q p.1 (h p.0)

  pub at_plus : (f : Poly) → Over F N f → (g : Poly) → Over F N g → (m : List ℕ) → In N m → at F (plus f g) m ≡ F.add (at F f m) (at F g m)
  at_plus = each _ (λ p. each _ (λ q m w.
      rw (← (Typing.raw-++ ground p q), Typing.raw_at ground (p ++ q) (m, w), Typing.raw_at ground p (m, w), Typing.raw_at ground q (m, w))
      (ap (λ c. c.0) (ap (λ v. v (m, w)) (Algebra.at-++ B p q) ∙ Algebra.⊕-at B (Algebra.at B p) (Algebra.at B q) (m, w)))))

  pub at_scaled : (c : ℕ) (a : List ℕ) → c < F.q → In N a → (f : Poly) → Over F N f → (m : List ℕ) → In N m → at F (scaled F c a f) (times a m) ≡ F.mul c (at F f m)
  at_scaled c a h w = each _ (λ p m v. let n : Mono N = Monomials.mul (a, w) (m, v) in
      rw (← (Typing.raw_scaled ground (c, h) (a, w) p), Typing.raw_at ground (Algebra.scaled B (c, h) (a, w) p) n, Typing.raw_at ground p (m, v))
      (ap (λ c. c.0) (ap (λ v. v n) (Algebra.at_scaled B (c, h) (a, w) p) ∙ Algebra.shift_at B (c, h) (a, w) (Algebra.at B p) (m, v))))

  pub over_plus : (f g : Poly) → Over F N f → Over F N g → Over F N (plus f g)
  over_plus f g o o' t h = ⊎_elim (λ k. o t k) (λ k. o' t k) (Memᴰ.append_cases f h)

  pub over_negated : (f : Poly) → Over F N f → Over F N (negated F f)
  over_negated = each _ (λ p. rw (← (Typing.raw_negated ground p)) (Typing.raw_over ground (Algebra.negated B p)))

  pub over_scaled : (c : ℕ) (m : List ℕ) → c < F.q → In N m → (f : Poly) → Over F N f → Over F N (scaled F c m f)
  over_scaled c m h w = each _ (λ p. rw (← (Typing.raw_scaled ground (c, h) (m, w) p)) (Typing.raw_over ground (Algebra.scaled B (c, h) (m, w) p)))

  pub over_product : (f : Poly) → Over F N f → (g : Poly) → Over F N g → Over F N (product F f g)
  over_product = each _ (λ p. each _ (λ q. rw (← (Typing.raw_product ground p q)) (Typing.raw_over ground (Algebra.product B p q))))

  to : {f g : Poly} (p q : Typed) → raw p ≡ f → raw q ≡ g → Algebra.at B p ≡ Algebra.at B q → Equal F f g
  to p q e e' h = rw (← e, ← e') (Typing.to_equal ground p q h)

  pub equal_plus : (f : Poly) → Over F N f → (f' : Poly) → Over F N f' → (g : Poly) → Over F N g → (g' : Poly) → Over F N g' → Equal F f f' → Equal F g g' → Equal F (plus f g) (plus f' g')
  equal_plus = each _ (λ p. each _ (λ p'. each _ (λ q. each _ (λ q' e d.
      to (p ++ q) (p' ++ q') (Typing.raw-++ ground p q) (Typing.raw-++ ground p' q') (cc (Algebra.at-++ B p q, Algebra.at-++ B p' q', Typing.from_equal ground p p' e, Typing.from_equal ground q q' d))))))

  pub equal_negated : (f : Poly) → Over F N f → (f' : Poly) → Over F N f' → Equal F f f' → Equal F (negated F f) (negated F f')
  equal_negated = each _ (λ p. each _ (λ p' e.
      to (Algebra.negated B p) (Algebra.negated B p') (Typing.raw_negated ground p) (Typing.raw_negated ground p') (cc (Algebra.at_negated B p, Algebra.at_negated B p', Typing.from_equal ground p p' e))))

  pub equal_minus : (f : Poly) → Over F N f → (f' : Poly) → Over F N f' → (g : Poly) → Over F N g → (g' : Poly) → Over F N g' → Equal F f f' → Equal F g g' → Equal F (minus F f g) (minus F f' g')
  equal_minus f o f' o' g p g' p' e d = equal_plus f o f' o' (negated F g) (over_negated g p) (negated F g') (over_negated g' p') e (equal_negated g p g' p' d)

  pub member_equal : {gs : List Poly} {f g : Poly} → Equal F g f → Member F N gs f → Member F N gs g
  member_equal e h = record { multipliers = h.multipliers; each = h.each; over = h.over; sum = λ m. e m ∙ h.sum m }

  member : (gs : List Typed) (p : Typed) {f : Poly} → raw p ≡ f → Span B gs (Algebra.at B p) → Member F N (map raw gs) f
  member gs p e h = subst (Member F N (map raw gs)) e (Membership.span_member ground gs p h)

  pub member_scaled : (c : ℕ) (a : List ℕ) → c < F.q → In N a → (gs : List Poly) → Overs F N gs → (f : Poly) → Over F N f → Member F N gs f → Member F N gs (scaled F c a f)
  member_scaled c a h w = eachs _ (λ gs. each _ (λ p k. member gs (Algebra.scaled B (c, h) (a, w) p) (Typing.raw_scaled ground (c, h) (a, w) p) (rw (Algebra.at_scaled B (c, h) (a, w) p) (Algebra.span_shift B (c, h) (a, w) (Membership.member_span ground gs p k)))))

  -- differences that are members, as values that gs span
  pub to_span : (gs : List Typed) (p q : Typed) → Member F N (map raw gs) (minus F (raw p) (raw q)) → Span B gs (Typing.minus ground p q)
  to_span gs p q h = subst (Span B gs) (Typing.at_minus ground p q) (Membership.member_span ground gs (p ++ Algebra.negated B q) (subst (Member F N (map raw gs)) (sym (Typing.raw_minus ground p q)) h))

  pub from_span : (gs : List Typed) (p q : Typed) → Span B gs (Typing.minus ground p q) → Member F N (map raw gs) (minus F (raw p) (raw q))
  from_span gs p q h = member gs (p ++ Algebra.negated B q) (Typing.raw_minus ground p q) (subst (Span B gs) (sym (Typing.at_minus ground p q)) h)

  -- u − w is a member, if u − v and v − w are
  pub member_diff : (gs : List Poly) → Overs F N gs → (u : Poly) → Over F N u → (v : Poly) → Over F N v → (w : Poly) → Over F N w → Member F N gs (minus F u v) → Member F N gs (minus F v w) → Member F N gs (minus F u w)
  member_diff = eachs _ (λ gs. each _ (λ p. each _ (λ q. each _ (λ r h k. from_span gs p r (Algebra.span_diff B (Algebra.at B p) (Algebra.at B q) (Algebra.at B r) (to_span gs p q h) (to_span gs q r k))))))

  pub member_swap : (gs : List Poly) → Overs F N gs → (u : Poly) → Over F N u → (v : Poly) → Over F N v → Member F N gs (minus F u v) → Member F N gs (minus F v u)
  member_swap = eachs _ (λ gs. each _ (λ p. each _ (λ q h. from_span gs q p (Algebra.span_swap B (Algebra.at B p) (Algebra.at B q) (to_span gs p q h)))))

  -- u is a member, if u − v and v are
  pub member_from : (gs : List Poly) → Overs F N gs → (u : Poly) → Over F N u → (v : Poly) → Over F N v → Member F N gs (minus F u v) → Member F N gs v → Member F N gs u
  member_from = eachs _ (λ gs. each _ (λ p. each _ (λ q h k. member gs p refl (Algebra.span_from B (Algebra.at B p) (Algebra.at B q) (to_span gs p q h) (Membership.member_span ground gs q k)))))

  -- v is a member, if u − v and u are
  pub member_back : (gs : List Poly) → Overs F N gs → (u : Poly) → Over F N u → (v : Poly) → Over F N v → Member F N gs (minus F u v) → Member F N gs u → Member F N gs v
  member_back = eachs _ (λ gs. each _ (λ p. each _ (λ q h k. member gs q refl (Algebra.span_back B (Algebra.at B p) (Algebra.at B q) (to_span gs p q h) (Membership.member_span ground gs p k)))))

  -- u + v − (w + x) is a member, if u − w and v − x are
  pub member_sums : (gs : List Poly) → Overs F N gs → (u : Poly) → Over F N u → (v : Poly) → Over F N v → (w : Poly) → Over F N w → (x : Poly) → Over F N x → Member F N gs (minus F u w) → Member F N gs (minus F v x) → Member F N gs (minus F (plus u v) (plus w x))
  member_sums = eachs _ (λ gs. each _ (λ p. each _ (λ q. each _ (λ r. each _ (λ s h k.
      subst₂ (λ a b. Member F N (map raw gs) (minus F a b)) (Typing.raw-++ ground p q) (Typing.raw-++ ground r s)
      (from_span gs (p ++ q) (r ++ s) (rw (Algebra.at-++ B p q, Algebra.at-++ B r s) (Algebra.span_plus B (Algebra.at B p) (Algebra.at B q) (Algebra.at B r) (Algebra.at B s) (to_span gs p r h) (to_span gs q s k)))))))))

  -- u v − w x is a member, if u − w and v − x are
  pub member_products : (gs : List Poly) → Overs F N gs → (u : Poly) → Over F N u → (v : Poly) → Over F N v → (w : Poly) → Over F N w → (x : Poly) → Over F N x → Member F N gs (minus F u w) → Member F N gs (minus F v x) → Member F N gs (minus F (product F u v) (product F w x))
  member_products = eachs _ (λ gs. each _ (λ p. each _ (λ q. each _ (λ r. each _ (λ s h k.
      subst₂ (λ a b. Member F N (map raw gs) (minus F a b)) (Typing.raw_product ground p q) (Typing.raw_product ground r s)
      (from_span gs (Algebra.product B p q) (Algebra.product B r s) (Algebra.span_product B p q r s (to_span gs p r h) (to_span gs q s k))))))))

  pub member_zero : (gs : List Poly) → Overs F N gs → Member F N gs []
  unfolding Algebra.at
  member_zero = eachs _ (λ gs. member gs [] refl (Algebra.none refl))

  -- f is a member, if its multiple by a code other than 0 is
  pub member_unscaled : (c : ℕ) → 0 < c → c < F.q → (gs : List Poly) → Overs F N gs → (f : Poly) → Over F N f → Member F N gs (scaled F (F.inv c) one f) → Member F N gs f
  member_unscaled c n h = eachs _ (λ gs. each _ (λ p k.
      let i = Typing.inverse ground (c, h) n in
      let q : Typed = Algebra.scaled B i.code Monomials.unit p in
      let e : raw q ≡ scaled F (F.inv c) one (raw p) = Typing.raw_scaled ground i.code Monomials.unit p ∙ ap (λ d. scaled F d one (raw p)) i.is in
      member gs p refl (subst (Span B gs) (ap (Algebra.shift B (c, h) Monomials.unit) (Algebra.at_scaled B i.code Monomials.unit p) ∙ Algebra.shift_unit B (c, h) i.code i.unit (Algebra.at B p))
      (Algebra.span_shift B (c, h) Monomials.unit (Membership.member_span ground gs q (subst (Member F N (map raw gs)) (sym e) k))))))

  -- of two members with the same first term, the others' difference is one
  pub member_tails : (t : Term) → (t.coefficient < F.q) × In N (exponents t) → (gs : List Poly) → Overs F N gs → (f : Poly) → Over F N f → (g : Poly) → Over F N g → Member F N gs (t ∷ f) → Member F N gs (t ∷ g) → Member F N gs (minus F f g)
  unfolding Algebra.at
  member_tails t o = eachs _ (λ gs. each _ (λ p. each _ (λ q h k.
      let u : Code F × Mono N = ((t.coefficient, o.0), (exponents t, o.1)) in
      let x : Algebra.V B = Algebra.single B u.0 u.1 in
      let e : Algebra.at B (p ++ Algebra.negated B q) ≡ Algebra.◌⊕◌ B (Algebra.at B (u ∷ p)) (Algebra.⊖ B (Algebra.at B (u ∷ q))) = Algebra.at-++ B p (Algebra.negated B q) ∙ ap (Algebra.◌⊕◌ B (Algebra.at B p)) (Algebra.at_negated B q) ∙ sym (Algebra.minus_front B x (Algebra.at B p) (Algebra.at B q)) in
      member gs (p ++ Algebra.negated B q) (Typing.raw_minus ground p q) (subst (Span B gs) (sym e) (Algebra.span-⊕ B (Membership.member_span ground gs (u ∷ p) h) (Algebra.span-⊖ B (Membership.member_span ground gs (u ∷ q) k)))))))

  pub member_generator : (gs : List Poly) → Overs F N gs → (g : Poly) → Memᴰ g gs → Member F N gs g
  member_generator = eachs _ (λ gs g h. let r = Memᴰ.of_map raw gs h in member gs r.0 r.2 (Algebra.span_gen B r.1))

  pub turned : {gs hs : List Poly} → SameIdeal F N gs hs → SameIdeal F N hs gs
  turned h f o = ((h f o).1, (h f o).0)

  pub chain : {fs gs hs : List Poly} → SameIdeal F N fs gs → SameIdeal F N gs hs → SameIdeal F N fs hs
  chain h k f o = (λ m. (k f o).0 ((h f o).0 m), λ m. (h f o).1 ((k f o).1 m))

  -- the ideals are the same where each generator is a member of the other
  pub same_ideal : (gs : List Poly) → Overs F N gs → (hs : List Poly) → Overs F N hs → ((g : Poly) → Memᴰ g gs → Member F N hs g) → ((h : Poly) → Memᴰ h hs → Member F N gs h) → SameIdeal F N gs hs
  same_ideal = eachs _ (λ gs. eachs _ (λ hs p q. Membership.same_ideal ground gs hs (λ g m. Membership.member_span ground hs g (p (raw g) (Memᴰ.map raw m))) (λ h m. Membership.member_span ground gs h (q (raw h) (Memᴰ.map raw m)))))

  -- members of the ideal of gs, where each of gs lies in that of hs
  pub member_through : (gs : List Poly) → Overs F N gs → (hs : List Poly) → Overs F N hs → ((g : Poly) → Memᴰ g gs → Member F N hs g) → (f : Poly) → Over F N f → Member F N gs f → Member F N hs f
  member_through = eachs _ (λ gs. eachs _ (λ hs p. each _ (λ f m. Membership.span_member ground hs f (Algebra.span_trans B (λ g h. Membership.member_span ground hs g (p (raw g) (Memᴰ.map raw h))) (Membership.member_span ground gs f m)))))

  pub over_append : (gs hs : List Poly) → Overs F N gs → Overs F N hs → Overs F N (gs ++ hs)
  over_append gs hs o o' g m = ⊎_elim (λ k. o g k) (λ k. o' g k) (Memᴰ.append_cases gs m)

  -- members as further generators change nothing
  pub same_append : (gs : List Poly) → Overs F N gs → (hs : List Poly) → Overs F N hs → ((h : Poly) → Memᴰ h hs → Member F N gs h) → SameIdeal F N gs (gs ++ hs)
  same_append gs o hs o' k = same_ideal gs o (gs ++ hs) (over_append gs hs o o')
      (λ g m. member_generator (gs ++ hs) (over_append gs hs o o') g (Memᴰ.append_left hs m))
      (λ g m. ⊎_elim (λ n. member_generator gs o g n) (λ n. k g n) (Memᴰ.append_cases gs m))

  pub member_wider : (gs : List Poly) → Overs F N gs → (hs : List Poly) → Overs F N hs → (f : Poly) → Over F N f → Member F N gs f → Member F N (gs ++ hs) f
  member_wider gs o hs o' f p m = member_through gs o (gs ++ hs) (over_append gs hs o o') (λ g k. member_generator (gs ++ hs) (over_append gs hs o o') g (Memᴰ.append_left hs k)) f p m

  -- ideals that are the same stay so with further generators
  pub same_more : (gs : List Poly) → Overs F N gs → (hs : List Poly) → Overs F N hs → (fs : List Poly) → Overs F N fs → SameIdeal F N gs hs → SameIdeal F N (gs ++ fs) (hs ++ fs)
  same_more gs o hs o' fs p e = same_ideal (gs ++ fs) (over_append gs fs o p) (hs ++ fs) (over_append hs fs o' p) (half gs o hs o' (λ f q m. (e f q).0 m)) (half hs o' gs o (λ f q m. (e f q).1 m))
    where
      half : (gs : List Poly) → Overs F N gs → (hs : List Poly) → Overs F N hs → ((f : Poly) → Over F N f → Member F N gs f → Member F N hs f) → (g : Poly) → Memᴰ g (gs ++ fs) → Member F N (hs ++ fs) g
      half gs o hs o' i g k = ⊎_elim
          (λ m. member_wider hs o' fs p g (o g m) (i g (o g m) (member_generator gs o g m)))
          (λ m. member_generator (hs ++ fs) (over_append hs fs o' p) g (Memᴰ.append_right hs m))
          (Memᴰ.append_cases gs k)
