-- The terms of −c x^a f, one by one: where no exponent is above 40 they are those of the negated multiple, and that is written.
use Rattle.std.proofs.Common.{◌≡◌, ℕ, zero, suc, ◌+◌, ◌-◌, ◌<◌, ◌≤◌, min, true, false, leb, List, [], ◌∷◌, map, length, get_or, sym, refl, ap, ◌∙◌, subst, ⊎_elim, arith}
use mathlib.Core.List.{Memᴰ}
use Rattle.std.proofs.lemmas.Bool.{and_parts, and_cases, leb-true, leb-false, le-leb, lt-leb, cases_Bool, both_ways}
use Rattle.std.specs.List.{zip, list_all}
use Rattle.field.specs.Field.{FieldMeaning, FieldLaws}
use Rattle.monomial.specs.Monomial.{Wide, width, In, times, Bounded}
use Rattle.monomial.specs.Places.{low, agree_all}
use Rattle.polynomial.specs.declared.term.Term.{Term}
use Rattle.polynomial.specs.Polynomial.{Poly, exponents, Over, Falling, none, single, more, Written}
use Rattle.polynomial.specs.Check.{Fits, largest_exponent}
use Rattle.involutive.specs.Value.{scaled, negated}
use Rattle.involutive.proofs.Typing.{Ground}
use Rattle.involutive.proofs.Ideals
use Rattle.involutive.proofs.WrittenLists.{written_scaled}
use Rattle.reduction.specs.Merging.{image, capped_product, small_product, all_small}
use Rattle.reduction.proofs.Codes.{product_is, mul_neg, neg_positive}
use Rattle.reduction.proofs.Terms.{each_cons, each_head, each_tail}

-- capped products, place by place
length_capped : (u m : List ℕ) → length u ≡ length m → length (capped_product u m) ≡ length m
length_capped [] m e = e
length_capped (d ∷ u) [] e = refl
length_capped (d ∷ u) (x ∷ m) e = ap suc (length_capped u m (omega arith))

at_capped : (u m : List ℕ) → length u ≡ length m → (i : ℕ) → i < length u → get_or (capped_product u m) i 0 ≡ min (get_or u i 0 + get_or m i 0) 255
at_capped [] m e i h = absurd (omega arith)
at_capped (d ∷ u) [] e i h = absurd (omega arith)
at_capped (d ∷ u) (x ∷ m) e zero h = refl
at_capped (d ∷ u) (x ∷ m) e (suc i) h = at_capped u m (omega arith) i (omega arith)

pub capped_from_places : (a b p : List ℕ) → Wide a → Wide b → Wide p → ((h : ℕ) → h < width → get_or p h 0 ≡ min (get_or a h 0 + get_or b h 0) 255) → p ≡ capped_product a b
capped_from_places a b p wa wb wp each =
    agree_all p (capped_product a b) (wp ∙ sym (length_capped a b (wa ∙ sym wb) ∙ wb)) (λ h l. each h (omega arith) ∙ sym (at_capped a b (wa ∙ sym wb) h (omega arith)))

-- the test on exponents
small_yes : (u m : List ℕ) → small_product u m ≡ true → (i : ℕ) → get_or (times u m) i 0 ≤ 40
small_yes [] m e i = omega arith
small_yes (d ∷ u) [] e i = omega arith
small_yes (d ∷ u) (x ∷ m) e zero = leb-true (d + x) 40 (and_parts (leb (d + x) 40) (small_product u m) e).0
small_yes (d ∷ u) (x ∷ m) e (suc i) = small_yes u m (and_parts (leb (d + x) 40) (small_product u m) e).1 i

capped_small : (x : ℕ) → leb (min x 255) 40 ≡ leb x 40
capped_small x =
    ⊎_elim (λ e. e ∙ sym (le-leb x 40 (let k = leb-true (min x 255) 40 e in omega arith))) (λ e. e ∙ sym (lt-leb x 40 (let k = leb-false (min x 255) 40 e in omega arith))) (cases_Bool (leb (min x 255) 40))

pub zip_small : (u m : List ℕ) → list_all (λ p. leb (min (p.0 + p.1) 255) 40) (zip u m) ≡ small_product u m
zip_small [] m = refl
zip_small (d ∷ u) [] = refl
zip_small (d ∷ u) (x ∷ m) = cc (capped_small (d + x), zip_small u m)

small_no : (u m : List ℕ) → small_product u m ≡ false → ((i : ℕ) → get_or (times u m) i 0 ≤ 40) → ⊥
small_no [] m e h = both_ways true e refl
small_no (d ∷ u) [] e h = both_ways true e refl
small_no (d ∷ u) (x ∷ m) e h = ⊎_elim (λ k. omega (arith, leb-false (d + x) 40 k, h 0)) (λ k. small_no u m k (λ i. h (suc i))) (and_cases (leb (d + x) 40) (small_product u m) e)

pub fits_yes : (F : FieldMeaning) (c : ℕ) (a : List ℕ) (f : Poly) → all_small a f ≡ true → Fits (scaled F c a f)
fits_yes F c a [] e = λ t h. elim h [ ]
fits_yes F c a (s ∷ f) e =
    let p = and_parts (small_product a (exponents s)) (all_small a f) e in
    each_cons (λ t. Bounded largest_exponent (exponents t)) (λ v. small_yes a (exponents s) p.0 (v - 1)) (fits_yes F c a f p.1)

pub fits_no : (F : FieldMeaning) (c : ℕ) (a : List ℕ) (f : Poly) → all_small a f ≡ false → Fits (scaled F c a f) → ⊥
fits_no F c a [] e h = both_ways true e refl
fits_no F c a (s ∷ f) e h =
    ⊎_elim (λ k. small_no a (exponents s) k (λ i. subst (λ j. get_or (times a (exponents s)) j 0 ≤ 40) (low i) (h _ (Memᴰ.head refl) (suc i)))) (λ k. fits_no F c a f k (λ t m. h t (Memᴰ.tail m)))
    (and_cases (small_product a (exponents s)) (all_small a f) e)

capped_times : (u m : List ℕ) → small_product u m ≡ true → capped_product u m ≡ times u m
capped_times [] m e = refl
capped_times (d ∷ u) [] e = refl
capped_times (d ∷ u) (x ∷ m) e =
    let p = and_parts (leb (d + x) 40) (small_product u m) e in
    let k : d + x ≤ 40 = leb-true (d + x) 40 p.0 in
    let l : min (d + x) 255 ≡ d + x = omega arith in
    cc (l, capped_times u m p.1)

module _ (F : FieldMeaning) (L : FieldLaws F) (n : ℕ) where
  abbrev Good : Term → Type 0
  Good t = (t.coefficient < F.q) × In n (exponents t)

  -- the terms that the code makes are those of the multiple
  pub images : (c : ℕ) (a : List ℕ) (f : Poly) → c < F.q → Over F n f → all_small a f ≡ true → map (image F c a) f ≡ scaled F c a f
  images c a [] p o e = refl
  images c a (t ∷ f) p o e =
      let k = and_parts (small_product a (exponents t)) (all_small a f) e in
      cc (product_is F L c t.coefficient p (each_head {P = Good} o).0, capped_times a (exponents t) k.0, images c a f p (each_tail {P = Good} o) k.1)

  scaled_negative : (c : ℕ) (a : List ℕ) (f : Poly) → c < F.q → Over F n f → scaled F (F.neg c) a f ≡ negated F (scaled F c a f)
  scaled_negative c a [] p o = refl
  scaled_negative c a (t ∷ f) p o = cc (mul_neg F L c t.coefficient p (each_head {P = Good} o).0, scaled_negative c a f p (each_tail {P = Good} o))

  pub negative_images : (c : ℕ) (a : List ℕ) (f : Poly) → c < F.q → Over F n f → all_small a f ≡ true → map (image F (F.neg c) a) f ≡ negated F (scaled F c a f)
  negative_images c a f p o e = images (F.neg c) a f (L.neg_below c p) o e ∙ scaled_negative c a f p o

-- the negative of what is written is written
module _ (ground : Ground) where
  abbrev F : FieldMeaning
  F = ground.field

  abbrev N : ℕ
  N = ground.variables

  falling_negated : {f : Poly} → Falling ground.order f → Falling ground.order (negated F f)
  falling_negated none = none
  falling_negated single = single
  falling_negated (more u h) = more u (falling_negated h)

  nonzero_negated : (f : Poly) → Over F N f → ((t : Term) → Memᴰ t f → 0 < t.coefficient) → (t : Term) → Memᴰ t (negated F f) → 0 < t.coefficient
  nonzero_negated [] o z = λ t h. elim h [ ]
  nonzero_negated (s ∷ f) o z =
      each_cons (λ t. 0 < t.coefficient) (neg_positive F ground.laws s.coefficient (z s (Memᴰ.head refl)) (o s (Memᴰ.head refl)).0)
      (nonzero_negated f (λ t m. o t (Memᴰ.tail m)) (λ t m. z t (Memᴰ.tail m)))

  written_negated : (f : Poly) → Written F ground.order N f → Written F ground.order N (negated F f)
  written_negated f w = record {
    over = Ideals.over_negated ground f w.over;
    nonzero = nonzero_negated f w.over w.nonzero;
    falling = falling_negated w.falling;
  }

  pub written_multiple : (c : ℕ) (a : List ℕ) → 0 < c → c < F.q → In N a → (f : Poly) → Written F ground.order N f → Written F ground.order N (negated F (scaled F c a f))
  written_multiple c a p h w f v = written_negated (scaled F c a f) (written_scaled ground c a p h w f v)
