-- A polynomial lies in an ideal exactly when the generators span its value.
use Rattle.std.proofs.Common.{◌≡◌, suc, ◌↔◌, List, [], ◌∷◌, ◌++◌, map, length, sym, refl, ap, ◌∙◌, subst, arith}
use mathlib.Core.List.Memᴰ
use mathlib.Core.List.{Memᴰ}
use lib.ListN.{length-map}
use Rattle.polynomial.specs.Polynomial.{Over}
use Rattle.involutive.specs.Ideal.{combination, Member, SameIdeal}
use Rattle.involutive.proofs.Algebra
use Rattle.involutive.proofs.Algebra.{Base, Span}
use Rattle.involutive.proofs.Monomials.{Mono}
use Rattle.involutive.proofs.Typing
use Rattle.involutive.proofs.Typing.{Ground, words, Code, base}

module _ (ground : Ground) where
  open ground use {field as F, variables as N}
  open words ground use {B, Typed, raw}

  abbrev total : List Typed → List Typed → Algebra.V B
  total [] gs = Algebra.𝟎 B
  total (a ∷ more) [] = Algebra.𝟎 B
  total (a ∷ more) (g ∷ gs) = Algebra.◌⊕◌ B (Algebra.act B a (Algebra.at B g)) (total more gs)

  -- a combination of typed polynomials by typed multipliers
  combined : (xs gs : List Typed) → (c : Typed) × (raw c ≡ combination F (map raw xs) (map raw gs)) × (Algebra.at B c ≡ total xs gs)
  unfolding Algebra.at
  combined [] gs = ([], refl, refl)
  combined (a ∷ more) [] = ([], refl, refl)
  combined (a ∷ more) (g ∷ gs) =
      let r = combined more gs in
      (Algebra.product B a g ++ r.0, cc (Typing.raw-++ ground (Algebra.product B a g) r.0, Typing.raw_product ground a g, r.1), cc (Algebra.at-++ B (Algebra.product B a g) r.0, Algebra.at_product B a g, r.2))

  total_span : (xs gs : List Typed) → Span B gs (total xs gs)
  total_span [] gs = Algebra.none refl
  total_span (a ∷ more) [] = Algebra.none refl
  total_span (a ∷ more) (g ∷ gs) = Algebra.span-⊕ B (Algebra.span_act B a (Algebra.span_gen B (Memᴰ.head refl))) (Algebra.span_trans B (λ x h. Algebra.span_gen B (Memᴰ.tail h)) (total_span more gs))

  pub member_span : (gs : List Typed) (f : Typed) → Member F N (map raw gs) (raw f) → Span B gs (Algebra.at B f)
  member_span gs f m =
      let xs = Typing.typeds ground m.multipliers m.over in
      let c = combined xs.0 gs in
      let e : Algebra.at B f ≡ Algebra.at B c.0 = Typing.from_equal ground f c.0 (rw (c.1, xs.1) m.sum) in
      subst (Span B gs) (sym (e ∙ c.2)) (total_span xs.0 gs)

  record Factors (gs : List Typed) (v : Algebra.V B) : Type 0 where
    list : List Typed
    each : length list ≡ length gs
    value : v ≡ total list gs

  no_factors : (gs : List Typed) → Factors gs (Algebra.𝟎 B)
  unfolding Algebra.act
  no_factors [] = record { list = []; each = refl; value = refl }
  no_factors (g ∷ gs) =
      let r = no_factors gs in
      record { list = [] ∷ r.list; each = ap suc r.each; value = cc (r.value, Algebra.0⊕ B (Algebra.𝟎 B)) }

  -- a term more at the place of g
  one_more : (c : Code F) (a : Mono N) {g : Typed} {gs : List Typed} → Memᴰ g gs → (xs : List Typed) → length xs ≡ length gs → Factors gs (Algebra.◌⊕◌ B (Algebra.shift B c a (Algebra.at B g)) (total xs gs))
  unfolding Algebra.act
  one_more c a (Memᴰ.head e) [] n = absurd (omega arith)
  one_more c a (Memᴰ.tail h) [] n = absurd (omega arith)
  one_more c a {g} (Memᴰ.head {x = x} {xs = gs} e) (y ∷ ys) n =
      record { list = ((c, a) ∷ y) ∷ ys; each = n; value = ap (λ z. Algebra.◌⊕◌ B (Algebra.shift B c a (Algebra.at B z)) (total (y ∷ ys) (x ∷ gs))) e ∙ sym (Algebra.⊕_assoc B _ _ _) }
  one_more c a {g} (Memᴰ.tail {x = x} {xs = gs} h) (y ∷ ys) n =
      let r = one_more c a h ys (omega arith) in
      record { list = y ∷ r.list; each = ap suc r.each; value = Algebra.⊕_left B _ _ _ ∙ ap (Algebra.◌⊕◌ B (Algebra.act B y (Algebra.at B x))) r.value }

  factors : {gs : List Typed} {v : Algebra.V B} → Span B gs v → Factors gs v
  factors {gs} (Algebra.none e) = let r = no_factors gs in record { list = r.list; each = r.each; value = e ∙ r.value }
  factors {gs} (Algebra.more {g = g} c a h p e) =
      let r = factors p in
      let s = one_more c a h r.list r.each in
      record { list = s.list; each = s.each; value = e ∙ ap (Algebra.◌⊕◌ B (Algebra.shift B c a (Algebra.at B g))) r.value ∙ s.value }

  pub span_member : (gs : List Typed) (f : Typed) → Span B gs (Algebra.at B f) → Member F N (map raw gs) (raw f)
  span_member gs f p =
      let r = factors p in
      let c = combined r.list gs in
      record {
        multipliers = map raw r.list;
        each = length-map r.list raw ∙ r.each ∙ sym (length-map gs raw);
        over = λ f h. let x = Memᴰ.of_map raw r.list h in subst (Over F N) x.2 (Typing.raw_over ground x.0);
        sum = rw (← c.1) (Typing.to_equal ground f c.0 (r.value ∙ sym c.2));
      }

  pub same_ideal : (gs hs : List Typed) → ((g : Typed) → Memᴰ g gs → Span B hs (Algebra.at B g)) → ((h : Typed) → Memᴰ h hs → Span B gs (Algebra.at B h)) → SameIdeal F N (map raw gs) (map raw hs)
  same_ideal gs hs p q f o =
      let t = Typing.typed ground f o in
      subst (λ x. Member F N (map raw gs) x ↔ Member F N (map raw hs) x) t.1
      (λ m. span_member hs t.0 (Algebra.span_trans B p (member_span gs t.0 m)), λ m. span_member gs t.0 (Algebra.span_trans B q (member_span hs t.0 m)))
