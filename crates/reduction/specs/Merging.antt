-- What the code of a multiple and of a subtraction computes on every value, sound or not, one term after another. The public
-- contract of `scale` uses `Multiplies` and what that is made of, and no public contract uses the rest.
use Rattle.std.specs.Prelude.{◌≡◌, ℕ, ◌+◌, ◌<◌, ◌≤◌, min, Bool, true, false, ◌&&◌, List, [], ◌∷◌, ◌++◌, map, length, Ok, Err, Result, nat_le, slice_index_or}
use Rattle.std.specs.declared.cmp.Ordering.TheVariants.{Less, Equal, Greater}
use Rattle.std.specs.List.{list_all}
use Rattle.std.specs.Option.{unwrap_or}
use Rattle.field.specs.Field.{FieldMeaning, code, codes, checked}
use Rattle.monomial.specs.Order.{Compare}
use Rattle.polynomial.specs.declared.term.Term.{Term}
use Rattle.polynomial.specs.Polynomial.{Poly, term, exponents}
use Rattle.polynomial.specs.Check.{largest_exponent, most_terms}
use Rattle.reduction.specs.declared.refusal.Reason.{Reason}
use Rattle.reduction.specs.declared.refusal.Reason.TheVariants.{Wide, Long}

-- the field's operations on any two numbers: 0 where one is no code
abbrev pub code_sum : FieldMeaning → ℕ → ℕ → ℕ
code_sum F a b = unwrap_or (checked (codes F.q a b) (F.add a b)) 0

abbrev pub code_product : FieldMeaning → ℕ → ℕ → ℕ
code_product F a b = unwrap_or (checked (codes F.q a b) (F.mul a b)) 0

abbrev pub code_negative : FieldMeaning → ℕ → ℕ
code_negative F a = unwrap_or (checked (code F.q a) (F.neg a)) 0

-- the product of two monomials, with 255 for each exponent that is larger
abbrev pub capped_product : List ℕ → List ℕ → List ℕ
capped_product [] m = []
capped_product (d ∷ u) [] = []
capped_product (d ∷ u) (e ∷ m) = min (d + e) 255 ∷ capped_product u m

-- the term of c x^a f that the term t of f gives
abbrev pub image : FieldMeaning → ℕ → List ℕ → Term → Term
image F c a t = term (code_product F c t.coefficient) (capped_product a (exponents t))

-- no exponent of the product is above 40
abbrev pub small_product : List ℕ → List ℕ → Bool
small_product [] m = true
small_product (d ∷ u) [] = true
small_product (d ∷ u) (e ∷ m) = nat_le (d + e) largest_exponent && small_product u m

-- nor of the multiple
abbrev pub all_small : List ℕ → Poly → Bool
all_small a f = list_all (λ t. small_product a (exponents t)) f

-- the first k terms of h stand above s
abbrev pub Above : Compare → Term → Poly → ℕ → Type 0
Above O s h k = (i : ℕ) (d : Term) → i < k → O (exponents (slice_index_or h i d)) (exponents s) ≡ Greater

-- the terms of h before a place stand above s, and the one there has its monomial, or else stands below it if there is one
abbrev pub Placed : Compare → Term → Poly → Result ℕ ℕ → Type 0
Placed O s h (Ok k) = (k < length h) × Above O s h k × ((d : Term) → O (exponents (slice_index_or h k d)) (exponents s) ≡ Equal)
Placed O s h (Err k) = (k ≤ length h) × Above O s h k × (k < length h → (d : Term) → O (exponents (slice_index_or h k d)) (exponents s) ≡ Less)

-- `Sums F O h f g`: adding up h and f from their greatest terms on gives g
module _ (F : FieldMeaning) (O : Compare) where
  pub data Sums : Poly → Poly → Poly → Type 0 where
    nothing : Sums [] [] []
    left_only : {t : Term} {h g : Poly} → Sums h [] g → Sums (t ∷ h) [] (t ∷ g)
    right_only : {s : Term} {f g : Poly} → Sums [] f g → Sums [] (s ∷ f) (s ∷ g)
    left_first : {t s : Term} {h f g : Poly} → O (exponents t) (exponents s) ≡ Greater → Sums h (s ∷ f) g → Sums (t ∷ h) (s ∷ f) (t ∷ g)
    right_first : {t s : Term} {h f g : Poly} → O (exponents t) (exponents s) ≡ Less → Sums (t ∷ h) f g → Sums (t ∷ h) (s ∷ f) (s ∷ g)
    together : {t s : Term} {h f g : Poly} → O (exponents t) (exponents s) ≡ Equal → 0 < code_sum F t.coefficient s.coefficient → Sums h f g → Sums (t ∷ h) (s ∷ f) (term (code_sum F t.coefficient s.coefficient) (exponents t) ∷ g)
    cancelled : {t s : Term} {h f g : Poly} → O (exponents t) (exponents s) ≡ Equal → code_sum F t.coefficient s.coefficient ≡ 0 → Sums h f g → Sums (t ∷ h) (s ∷ f) g

-- when s is added to h, `part` of the sum is settled and `rest` of h is left
abbrev pub Meets : FieldMeaning → Compare → Term → Poly → Poly → Poly → Type 0
Meets F O s h part rest = (f g : Poly) → Sums F O rest f g → Sums F O h (s ∷ f) (part ++ g)

-- what multiplying the terms f by c x^a gives, whatever they are, in a buffer that held `old`: its terms one by one; or nothing
-- changes, since f has more than 40 terms, or else since an exponent of the multiple is above 40
abbrev pub Multiplies : FieldMeaning → ℕ → List ℕ → Poly → Poly → Result (Unit {0}) Reason → Poly → Type 0
Multiplies F c a f old (Ok u) new = (length f ≤ most_terms) × (all_small a f ≡ true) × (new ≡ map (image F c a) f)
Multiplies F c a f old (Err Long) new = (most_terms < length f) × (new ≡ old)
Multiplies F c a f old (Err Wide) new = (length f ≤ most_terms) × (all_small a f ≡ false) × (new ≡ old)
