-- From the lists of terms in specs/ to polynomials over the codes below q, and back.
use Rattle.std.proofs.Common.{◌≡◌, ℕ, zero, suc, ◌-◌, ◌<◌, List, [], ◌∷◌, ◌++◌, map, get_or, sym, refl, ap, ◌∙◌, ⊎_elim, arith}
use mathlib.Core.Path.{fun_ext}
use mathlib.Core.HLevel.{Σ_prop_path}
use lib.ListN.{get_or-map}
use mathlib.Core.List.Memᴰ
use mathlib.Core.List.{Memᴰ, map-append}
use native.Mathlib.Bridge.{le_prop}
use Rattle.std.proofs.lemmas.Bool.{cond-true, cond-false}
use Rattle.polynomial.specs.declared.term.Term.{Term}
use Rattle.field.specs.Field.{FieldMeaning, FieldLaws}
use Rattle.monomial.specs.Monomial.{In}
use Rattle.involutive.specs.Value
use Rattle.polynomial.specs.Polynomial
use Rattle.polynomial.specs.Polynomial.{Poly, term, exponents, Over}
use Rattle.involutive.specs.Value.{Equal}
use Rattle.monomial.specs.Order.{Compare, OrderLaws, Under}
use Rattle.monomial.specs.Division.{Split}
use Rattle.involutive.specs.Reduction.{multiple, Difference}
use Rattle.involutive.specs.Sheet.{Setting, Lawful}
use Rattle.involutive.proofs.Lists
use Rattle.involutive.proofs.Algebra
use Rattle.involutive.proofs.Algebra.{Base}
use Rattle.involutive.proofs.Values
use Rattle.involutive.proofs.Monomials
use Rattle.involutive.proofs.Monomials.{Mono}

abbrev pub Code : FieldMeaning → Type 0
Code F = (c : ℕ) × (c < F.q)

pub code_eq : {q : ℕ} {a b : (c : ℕ) × (c < q)} → a.0 ≡ b.0 → a ≡ b
code_eq e = Σ_prop_path (λ c. le_prop) e

pub positive : {F : FieldMeaning} → FieldLaws F → 0 < F.q
positive L = omega (arith, L.differ)

-- u stands below m
abbrev pub Beneath : (N : ℕ) → Compare → Mono N → Mono N → Type 0
Beneath N O u m = Under O u.0 m.0

abbrev pub base : {F : FieldMeaning} → FieldLaws F → ℕ → Base
base {F} L N = record {
  K = Code F;
  𝟘 = (0, positive L);
  𝟙 = (1, L.differ);
  ◌+◌ = λ a b. (F.add a.0 b.0, L.add_below a.0 b.0 a.1 b.1);
  ◌*◌ = λ a b. (F.mul a.0 b.0, L.mul_below a.0 b.0 a.1 b.1);
  neg = λ a. (F.neg a.0, L.neg_below a.0 a.1);
  +_comm = λ a b. code_eq (L.add_comm a.0 b.0 a.1 b.1);
  +_assoc = λ a b c. code_eq (L.add_assoc a.0 b.0 c.0 a.1 b.1 c.1);
  0+ = λ a. code_eq (L.zero_neutral a.0 a.1);
  +-neg = λ a. code_eq (L.negates a.0 a.1);
  *_comm = λ a b. code_eq (L.mul_comm a.0 b.0 a.1 b.1);
  *_assoc = λ a b c. code_eq (L.mul_assoc a.0 b.0 c.0 a.1 b.1 c.1);
  1* = λ a. code_eq (L.one_neutral a.0 a.1);
  *-+ = λ a b c. code_eq (L.distributes a.0 b.0 c.0 a.1 b.1 c.1);
  M = Mono N;
  one = Monomials.unit;
  ◌·◌ = Monomials.mul;
  ·_comm = Monomials.mul_comm;
  ·_assoc = Monomials.mul_assoc;
  one· = Monomials.unit_mul;
  cancel = Monomials.cancel;
  same = Monomials.same?;
  divide = Monomials.divide;
}

abbrev pub Nonzero : Poly → Type 0
Nonzero f = (t : Term) → Memᴰ t f → 0 < t.coefficient

-- what polynomials are made of: a field, an order of monomials and a number of variables
pub record Ground : Type 0 where
  pub field : FieldMeaning
  pub laws : FieldLaws field
  pub order : Compare
  pub order_laws : OrderLaws order
  pub variables : ℕ

-- that of a sheet
abbrev pub ground_of : (S : Setting) → Lawful S → Ground
ground_of S W = record { field = S.field; laws = W.field; order = S.order; order_laws = W.order; variables = S.variables }

module _ (ground : Ground) where
  open ground use {field as F, laws as L, variables as N, order as O, order_laws as Q}

  abbrev pub B : Base
  B = base L N

  abbrev pub Typed : Type 0
  Typed = List (Code F × Mono N)

  -- a term without its proofs
  abbrev pub bare : Code F × Mono N → Term
  bare t = term t.0.0 t.1.0

  abbrev pub raw : Typed → Poly
  raw = map bare

  pub raw-++ : (f g : Typed) → raw (f ++ g) ≡ raw f ++ raw g
  raw-++ = map-append bare

  pub typed : (f : Poly) → Over F N f → (p : Typed) × (raw p ≡ f)
  typed f o = Lists.lifted bare f (λ t h. let w = o t h in (((t.coefficient, w.0), (exponents t, w.1)), refl))

  pub raw_over : (p : Typed) → Over F N (raw p)
  raw_over p t h = let u = Memᴰ.of_map bare p h in rw (← u.2) (u.0.0.1, u.0.1.1)

  pub raw_scaled : (c : Code F) (a : Mono N) (f : Typed) → raw (Algebra.scaled B c a f) ≡ Value.scaled F c.0 a.0 (raw f)
  unfolding Algebra.scaled
  raw_scaled c a [] = refl
  raw_scaled c a (t ∷ f) = ap {B = Poly} (λ r. term (F.mul c.0 t.0.0) (Monomials.mul a t.1).0 ∷ r) (raw_scaled c a f)

  pub raw_negated : (f : Typed) → raw (Algebra.negated B f) ≡ Value.negated F (raw f)
  unfolding Algebra.negated
  raw_negated [] = refl
  raw_negated (t ∷ f) = ap {B = Poly} (λ r. term (F.neg t.0.0) t.1.0 ∷ r) (raw_negated f)

  pub raw_product : (f g : Typed) → raw (Algebra.product B f g) ≡ Value.product F (raw f) (raw g)
  unfolding Algebra.product
  raw_product [] g = refl
  raw_product (t ∷ f) g = cc (raw_product f g, raw-++ (Algebra.scaled B t.0 t.1 g) (Algebra.product B f g), raw_scaled t.0 t.1 g)

  pub raw_at : (f : Typed) (m : Mono N) → Value.at F (raw f) m.0 ≡ (Algebra.at B f m).0
  unfolding Algebra.at Algebra.𝟎 Algebra.◌⊕◌
  raw_at [] m = refl
  raw_at (t ∷ f) m = go (Monomials.same? t.1 m) (raw_at f m)
    where
      go : Dec (t.1 ≡ m) → Value.at F (raw f) m.0 ≡ (Algebra.at B f m).0 → Value.at F (raw (t ∷ f)) m.0 ≡ F.add (Algebra.single B t.0 t.1 m).0 (Algebra.at B f m).0
      go (yes e) h = cond-true _ _ _ (Monomials.same_yes t.1 m e) ∙ cc (h, ap (λ c. c.0) (Algebra.single_at B t.0 t.1 m e))
      go (no n) h = cond-false _ _ _ (Monomials.same_no t.1 m n) ∙ cc (h, ap (λ c. c.0) (Algebra.single_off B t.0 t.1 m n), L.zero_neutral (Algebra.at B f m).0 (Algebra.at B f m).1)

  -- lists of terms stand for the same polynomial where their values are the same
  pub from_equal : (f g : Typed) → Equal F (raw f) (raw g) → Algebra.at B f ≡ Algebra.at B g
  from_equal f g e = fun_ext (λ m. code_eq (sym (raw_at f m) ∙ e m.0 ∙ raw_at g m))

  pub to_equal : (f g : Typed) → Algebra.at B f ≡ Algebra.at B g → Equal F (raw f) (raw g)
  to_equal f g e = Values.agree F (raw f) (raw g) (λ t h. inside (exponents t) (raw_over f t h).1) (λ t h. inside (exponents t) (raw_over g t h).1)
    where
      inside : (m : List ℕ) → In N m → Value.at F (raw f) m ≡ Value.at F (raw g) m
      inside m w = raw_at f (m, w) ∙ ap (λ v. (v (m, w)).0) e ∙ sym (raw_at g (m, w))

  pub same_value : (p q : Typed) → raw p ≡ raw q → Algebra.at B p ≡ Algebra.at B q
  same_value p q e = from_equal p q (λ m. ap (λ x. Value.at F x m) e)

  pub nothing : (p : Typed) → raw p ≡ [] → Algebra.at B p ≡ Algebra.𝟎 B
  unfolding Algebra.at
  nothing [] e = refl
  nothing (t ∷ p) e = cc

  -- the value of a difference
  abbrev pub minus : Typed → Typed → Algebra.V B
  minus p q = Algebra.◌⊕◌ B (Algebra.at B p) (Algebra.⊖ B (Algebra.at B q))

  pub typeds : (fs : List Poly) → ((a : Poly) → Memᴰ a fs → Over F N a) → (xs : List Typed) × (map raw xs ≡ fs)
  typeds fs o = Lists.lifted raw fs (λ f h. typed f (o f h))

  pub raw_row : (T : List Typed) (i : ℕ) → get_or (map raw T) i [] ≡ raw (get_or T i [])
  raw_row T i = get_or-map raw T i []

  abbrev pub lead : Typed → Mono N
  lead [] = Monomials.unit
  lead (t ∷ f) = t.1

  pub raw_lead : (p : Typed) → Polynomial.leading (raw p) ≡ (lead p).0
  raw_lead [] = refl
  raw_lead (t ∷ f) = refl

  pub row_lead : (T : List Typed) (i : ℕ) → Polynomial.leading (get_or (map raw T) i []) ≡ (lead (get_or T i [])).0
  row_lead T i = ap Polynomial.leading (raw_row T i) ∙ raw_lead (get_or T i [])

  pub raw_minus : (f g : Typed) → raw (f ++ Algebra.negated B g) ≡ Value.minus F (raw f) (raw g)
  raw_minus f g = raw-++ f (Algebra.negated B g) ∙ ap (λ x. raw f ++ x) (raw_negated g)

  raw_multiple : (D : Split) (T : List Typed) (t : Code F × Mono N) (k : ℕ) → multiple F O D N (map raw T) (term t.0.0 t.1.0) k ≡ raw (Algebra.scaled B t.0 (Monomials.over t.1 (lead (get_or T (k - 1) []))) (get_or T (k - 1) []))
  raw_multiple D T t k = rw (raw_row T (k - 1), raw_lead (get_or T (k - 1) [])) (sym (raw_scaled t.0 (Monomials.over t.1 (lead (get_or T (k - 1) []))) (get_or T (k - 1) [])))

  pub action_value : (D : Split) (T : List Typed) (h g : Typed) (t : Code F × Mono N) (k : ℕ) → Difference F O D N (map raw T) (raw h) (multiple F O D N (map raw T) (term t.0.0 t.1.0) k) (raw g) →
      Algebra.at B g ≡ Algebra.◌⊕◌ B (Algebra.at B h) (Algebra.⊖ B (Algebra.shift B t.0 (Monomials.over t.1 (lead (get_or T (k - 1) []))) (Algebra.at B (get_or T (k - 1) []))))
  action_value D T h g t k d =
      let r : Typed = get_or T (k - 1) [] in
      let a : Mono N = Monomials.over t.1 (lead r) in
      let s : Typed = Algebra.scaled B t.0 a r in
      let e : Algebra.at B g ≡ Algebra.at B (h ++ Algebra.negated B s) = from_equal g (h ++ Algebra.negated B s) (rw (raw_minus h s, ← (raw_multiple D T t k)) d.value) in
      e ∙ Algebra.at-++ B h (Algebra.negated B s) ∙ ap (Algebra.◌⊕◌ B (Algebra.at B h)) (Algebra.at_negated B s ∙ ap (Algebra.⊖ B) (Algebra.at_scaled B t.0 a r))

  pub at_minus : (f g : Typed) → Algebra.at B (f ++ Algebra.negated B g) ≡ minus f g
  at_minus f g = Algebra.at-++ B f (Algebra.negated B g) ∙ ap (Algebra.◌⊕◌ B (Algebra.at B f)) (Algebra.at_negated B g)

  pub raw_term : (p : Typed) {t : Term} → Memᴰ t (raw p) → (u : Code F × Mono N) × Memᴰ u p × (t ≡ term u.0.0 u.1.0)
  raw_term p h = let u = Memᴰ.of_map bare p h in (u.0, u.1, sym u.2)

  -- a row divided by its leading coefficient
  pub record Inverse (c : Code F) : Type 0 where
    pub code : Code F
    pub is : code.0 ≡ F.inv c.0
    pub unit : B.◌*◌ c code ≡ B.𝟙
    pub pos : 0 < code.0

  pub unit_pos : (c d : Code F) → B.◌*◌ c d ≡ B.𝟙 → 0 < d.0
  unit_pos c d e = go d.0 refl
    where
      go : (n : ℕ) → d.0 ≡ n → 0 < n
      go (suc n) h = omega arith
      go zero h = let z : ◌≡◌ {A = ℕ} 0 1 = ap (λ x. x.0) (sym (ap (B.◌*◌ c) (code_eq h) ∙ Algebra.*0 B c) ∙ e) in absurd (omega arith)

  pub inverse : (c : Code F) → 0 < c.0 → Inverse c
  inverse c h =
      let d : Code F = (F.inv c.0, L.inv_below c.0 h c.1) in
      let e : B.◌*◌ c d ≡ B.𝟙 = code_eq (L.inverts c.0 h c.1) in
      record { code = d; is = refl; unit = e; pos = unit_pos c d e }

  product_pos : (c b : Code F) → 0 < c.0 → 0 < b.0 → 0 < (B.◌*◌ c b).0
  product_pos c b h k = go (B.◌*◌ c b).0 refl
    where
      go : (n : ℕ) → (B.◌*◌ c b).0 ≡ n → 0 < n
      go (suc n) e = omega arith
      go zero e = let i = inverse c h in let z : b.0 ≡ 0 = ap (λ x. x.0) (Algebra.no_divisors B c i.code b i.unit (code_eq e)) in omega arith

  pub nonzero_scaled : (c : Code F) (a : Mono N) (p : Typed) → 0 < c.0 → Nonzero (raw p) → Nonzero (raw (Algebra.scaled B c a p))
  unfolding Algebra.scaled
  nonzero_scaled c a [] h n t m = elim m [ ]
  nonzero_scaled c a (s ∷ p) h n t m = ⊎_elim (λ e. rw e (product_pos c s.0 h (n _ (Memᴰ.head refl)))) (λ k. nonzero_scaled c a p h (λ x k. n x (Memᴰ.tail k)) t k) (Memᴰ.cases_cons m)

-- what a section over a ground calls the things above; it opens those that it needs
pub record Words : Type 1 where
  pub ground : Ground
  pub B : Base
  pub Typed : Type 0
  pub raw : Typed → Poly
  pub lead : Typed → Mono ground.variables
  pub minus : Typed → Typed → Algebra.V B
  pub Sorted : Typed → Type 0
  pub nth : List Typed → ℕ → Typed

abbrev pub words : Ground → Words
words ground = record {
  ground = ground;
  B = B ground;
  Typed = Typed ground;
  raw = raw ground;
  lead = lead ground;
  minus = minus ground;
  Sorted = Algebra.Sorted (B ground) (Beneath ground.variables ground.order);
  nth = λ T k. get_or T (k - 1) [];
}
