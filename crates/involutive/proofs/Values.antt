-- Where a coefficient is not 0 a term stands; and the terms of sums, negatives and multiples.
use Rattle.std.proofs.Common.{◌≡◌, ℕ, suc, true, false, ◌⊎◌, List, [], ◌∷◌, length, sym, refl, ap, ◌∙◌, subst, inl, inr, ⊎_elim}
use mathlib.Core.List.Memᴰ
use mathlib.Core.List.{Memᴰ}
use Rattle.std.proofs.lemmas.Bool.{cases_Bool, cond-false}
use Rattle.field.specs.Field.{FieldMeaning}
use Rattle.monomial.specs.Monomial.{same, times, Bounded}
use Rattle.polynomial.specs.declared.term.Term.{Term}
use Rattle.polynomial.specs.Polynomial.{Poly, exponents, term}
use Rattle.polynomial.specs.Check.{Fits, largest_exponent}
use Rattle.involutive.specs.Value.{at, Equal, scaled, negated, minus}
use Rattle.involutive.proofs.Monomials.{same_true}

-- a term of f whose monomial is m
pub record Stands (f : Poly) (m : List ℕ) : Type 0 where
  pub by : Term
  pub stands : Memᴰ by f
  pub is : exponents by ≡ m

one_more : {f : Poly} {m : List ℕ} (s : Term) → Stands f m → Stands (s ∷ f) m
one_more s h = record { by = h.by; stands = Memᴰ.tail h.stands; is = h.is }

-- m stands in a term of f, or the coefficient there is 0
pub occurs : (F : FieldMeaning) (f : Poly) (m : List ℕ) → Stands f m ⊎ (at F f m ≡ 0)
occurs F [] m = inr refl
occurs F (t ∷ f) m = go (cases_Bool (same (exponents t) m)) (occurs F f m)
  where
    go : (same (exponents t) m ≡ true) ⊎ (same (exponents t) m ≡ false) → Stands f m ⊎ (at F f m ≡ 0) → Stands (t ∷ f) m ⊎ (at F (t ∷ f) m ≡ 0)
    go (inl e) r = inl (record { by = t; stands = Memᴰ.head refl; is = same_true (exponents t) m e })
    go (inr e) (inl r) = inl (one_more t r)
    go (inr e) (inr r) = inr (cond-false _ _ _ e ∙ r)

-- lists that agree at the monomials of both stand for the same polynomial
pub agree : (F : FieldMeaning) (f g : Poly) → ((t : Term) → Memᴰ t f → at F f (exponents t) ≡ at F g (exponents t)) → ((t : Term) → Memᴰ t g → at F f (exponents t) ≡ at F g (exponents t)) → Equal F f g
agree F f g a b m = go (occurs F f m) (occurs F g m)
  where
    go : Stands f m ⊎ (at F f m ≡ 0) → Stands g m ⊎ (at F g m ≡ 0) → at F f m ≡ at F g m
    go (inl r) y = subst (λ m. at F f m ≡ at F g m) r.is (a r.by r.stands)
    go (inr x) (inl r) = subst (λ m. at F f m ≡ at F g m) r.is (b r.by r.stands)
    go (inr x) (inr y) = x ∙ sym y

negated_stands : (F : FieldMeaning) (f : Poly) (t : Term) → Memᴰ t (negated F f) → Stands f (exponents t)
negated_stands F [] t h = elim h [ ]
negated_stands F (s ∷ f) t h = ⊎_elim (λ e. record { by = s; stands = Memᴰ.head refl; is = ap exponents (sym e) }) (λ k. one_more s (negated_stands F f t k)) (Memᴰ.cases_cons h)

-- the difference's monomials fit where those of both do
pub fits_minus : (F : FieldMeaning) (h f : Poly) → Fits h → Fits f → Fits (minus F h f)
fits_minus F h f a b t m = ⊎_elim (λ k. a t k) (λ k. let r = negated_stands F f t k in subst (Bounded largest_exponent) r.is (b r.by r.stands)) (Memᴰ.append_cases h m)

-- a term of a multiple, and the term of f that it comes from
pub scaled_term : (F : FieldMeaning) (c : ℕ) (a : List ℕ) (f : Poly) (t : Term) → Memᴰ t (scaled F c a f) → (s : Term) × Memᴰ s f × (t ≡ term (F.mul c s.coefficient) (times a (exponents s)))
scaled_term F c a [] t h = elim h [ ]
scaled_term F c a (s ∷ f) t h = ⊎_elim (λ e. (s, Memᴰ.head refl, e)) (λ k. let r = scaled_term F c a f t k in (r.0, Memᴰ.tail r.1, r.2)) (Memᴰ.cases_cons h)

pub length_scaled : (F : FieldMeaning) (c : ℕ) (a : List ℕ) (f : Poly) → length (scaled F c a f) ≡ length f
length_scaled F c a [] = refl
length_scaled F c a (t ∷ f) = ap suc (length_scaled F c a f)
