-- What a list of terms stands for: a coefficient at each monomial. Sums, multiples and products of such lists.
use Rattle.std.specs.Prelude.{◌≡◌, ℕ, cond, List, [], ◌∷◌, ◌++◌}
use Rattle.field.specs.Field.{FieldMeaning}
use Rattle.monomial.specs.Monomial.{same, times, one}
use Rattle.polynomial.specs.Polynomial.{Poly, exponents, term}

-- the coefficient at m: the sum over the terms whose monomial is m
abbrev pub at : FieldMeaning → Poly → List ℕ → ℕ
at F [] m = 0
at F (t ∷ f) m = cond (same (exponents t) m) (F.add t.coefficient (at F f m)) (at F f m)

-- two lists of terms stand for the same polynomial
abbrev pub Equal : FieldMeaning → Poly → Poly → Type 0
Equal F f g = (m : List ℕ) → at F f m ≡ at F g m

-- c times the monomial m times f
abbrev pub scaled : FieldMeaning → ℕ → List ℕ → Poly → Poly
scaled F c m [] = []
scaled F c m (t ∷ f) = term (F.mul c t.coefficient) (times m (exponents t)) ∷ scaled F c m f

abbrev pub negated : FieldMeaning → Poly → Poly
negated F [] = []
negated F (t ∷ f) = term (F.neg t.coefficient) (exponents t) ∷ negated F f

abbrev pub plus : Poly → Poly → Poly
plus f g = f ++ g

abbrev pub minus : FieldMeaning → Poly → Poly → Poly
minus F f g = f ++ negated F g

abbrev pub product : FieldMeaning → Poly → Poly → Poly
product F [] g = []
product F (t ∷ f) g = scaled F t.coefficient (exponents t) g ++ product F f g

-- the polynomial 1
abbrev pub unit : Poly
unit = term 1 one ∷ []
