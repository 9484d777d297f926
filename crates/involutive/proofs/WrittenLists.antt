-- Written polynomials: determined by their values, and kept by multiples and differences.
use Rattle.std.proofs.Common.{◌≡◌, ℕ, zero, suc, ◌<◌, ◌⊎◌, List, [], ◌∷◌, Ordering, Less, Equal as Same, Greater, sym, refl, ap, ◌∙◌, subst, inl, inr, ⊎_elim, arith}
use mathlib.Core.List.Memᴰ
use mathlib.Core.List.{Memᴰ}
use Rattle.polynomial.specs.declared.term.Term.{Term}
use Rattle.monomial.specs.Monomial.{In, Bounded, Wide}
use Rattle.polynomial.specs.Check.{Fits, largest_exponent}
use Rattle.involutive.specs.Value
use Rattle.polynomial.specs.Polynomial.{Poly, exponents, Over, Falling, more as more_terms, Written, none, single}
use Rattle.involutive.specs.Value.{Equal, scaled}
use Rattle.monomial.specs.Order.{Compare, OrderLaws, Under}
use Rattle.std.specs.Ordering.{ordering_reverse}
use Rattle.monomial.specs.Division.{Split}
use Rattle.involutive.specs.Reduction.{Difference}
use Rattle.involutive.proofs.Algebra
use Rattle.involutive.proofs.Algebra.{Base}
use Rattle.involutive.proofs.Values
use Rattle.involutive.proofs.Monomials
use Rattle.involutive.proofs.Monomials.{Mono}
use Rattle.involutive.proofs.Typing
use Rattle.involutive.proofs.Typing.{Ground, words, Code, Beneath, Nonzero, base}
use Rattle.involutive.proofs.Ideals

-- no two monomials stand below one another
pub under_asym : {O : Compare} → OrderLaws O → (u m : List ℕ) → Wide u → Wide m → Under O u m → Under O m u → ⊥
under_asym Q u m a b h k = let z : Less ≡ Same = sym (Q.transitive u m u a b a h k) ∙ (Q.equal u u a a).1 refl in cc

module _ (ground : Ground) where
  open ground use {field as F, laws as L, variables as N, order as O, order_laws as Q}
  open words ground use {B, Typed, raw}

  pub under_irr : (u : Mono N) → Beneath N O u u → ⊥
  under_irr u h = let z : Less ≡ Same = sym h ∙ (Q.equal u.0 u.0 u.1.wide u.1.wide).1 refl in cc

  pub under_tri : (u m : Mono N) → Beneath N O u m ⊎ ((u ≡ m) ⊎ Beneath N O m u)
  under_tri u m = go (O u.0 m.0) refl
    where
      go : (o : Ordering) → O u.0 m.0 ≡ o → Beneath N O u m ⊎ ((u ≡ m) ⊎ Beneath N O m u)
      go Less e = inl e
      go Same e = inr (inl (Monomials.mono_eq ((Q.equal u.0 m.0 u.1.wide m.1.wide).0 e)))
      go Greater e = inr (inr (Q.total u.0 m.0 u.1.wide m.1.wide ∙ ap ordering_reverse e))

  pub under_trans : (u v m : Mono N) → Beneath N O u v → Beneath N O v m → Beneath N O u m
  under_trans u v m h k = Q.transitive u.0 v.0 m.0 u.1.wide v.1.wide m.1.wide h k

  abbrev pub line : Algebra.Line B (Beneath N O)
  line = record { tri = under_tri; trans = under_trans; irr = under_irr }

  not_zero : (c : Code F) → 0 < c.0 → c ≡ B.𝟘 → ⊥
  not_zero c h e = let z : c.0 ≡ 0 = ap (λ x. x.0) e in omega arith

  falling_parts : {t s : Term} {f : Poly} → Falling O (t ∷ s ∷ f) → Under O (exponents s) (exponents t) × Falling O (s ∷ f)
  falling_parts (more_terms h f) = (h, f)

  sorted : (t : Code F × Mono N) (f : Typed) → Falling O (raw (t ∷ f)) → ((s : Term) → Memᴰ s (raw (t ∷ f)) → 0 < s.coefficient) → Algebra.Sorted B (Beneath N O) (t ∷ f)
  sorted t [] h n = Algebra.more_sorted (not_zero t.0 (n _ (Memᴰ.head refl))) Algebra.none_below Algebra.none_sorted
  sorted t (s ∷ f) h n = go (sorted s f (falling_parts h).1 (λ x k. n x (Memᴰ.tail k)))
    where
      go : Algebra.Sorted B (Beneath N O) (s ∷ f) → Algebra.Sorted B (Beneath N O) (t ∷ s ∷ f)
      go (Algebra.more_sorted z b r) = Algebra.more_sorted (not_zero t.0 (n _ (Memᴰ.head refl))) (Algebra.more_below (falling_parts h).0 (Algebra.below_up B (Beneath N O) line (falling_parts h).0 b)) (Algebra.more_sorted z b r)

  pub written_sorted : (f : Typed) → Written F O N (raw f) → Algebra.Sorted B (Beneath N O) f
  written_sorted [] w = Algebra.none_sorted
  written_sorted (t ∷ f) w = sorted t f w.falling w.nonzero

  falls : (t : Code F × Mono N) (f : Typed) → Algebra.Below B (Beneath N O) t.1 f → Falling O (raw f) → Falling O (raw (t ∷ f))
  falls t [] b r = single
  falls t (s ∷ f) (Algebra.more_below h b) r = more_terms h r

  sorted_nonzero : {f : Typed} → Algebra.Sorted B (Beneath N O) f → (t : Term) → Memᴰ t (raw f) → 0 < t.coefficient
  sorted_nonzero Algebra.none_sorted t h = elim h [ ]
  sorted_nonzero (Algebra.more_sorted {t = s} z b r) t h = ⊎_elim (λ e. subst (λ x. 0 < x.coefficient) (sym e) (positive_code s.0 z)) (λ k. sorted_nonzero r t k) (Memᴰ.cases_cons h)
    where
      positive_code : (c : Code F) → (c ≡ B.𝟘 → ⊥) → 0 < c.0
      positive_code (zero, h) n = absurd (n (Typing.code_eq refl))
      positive_code (suc c, h) n = omega arith

  sorted_falling : {f : Typed} → Algebra.Sorted B (Beneath N O) f → Falling O (raw f)
  sorted_falling Algebra.none_sorted = none
  sorted_falling (Algebra.more_sorted {t = t} {f = f} z b r) = falls t f b (sorted_falling r)

  pub sorted_written : (f : Typed) → Algebra.Sorted B (Beneath N O) f → Written F O N (raw f)
  sorted_written f s = record { over = Typing.raw_over ground f; nonzero = sorted_nonzero s; falling = sorted_falling s }

  -- there is one way to write a polynomial down
  pub written_eq : (f g : Poly) → Written F O N f → Written F O N g → Equal F f g → f ≡ g
  written_eq f g v w e =
      let p = Typing.typed ground f v.over in
      let q = Typing.typed ground g w.over in
      let s = written_sorted p.0 (rw p.1 v) in
      let r = written_sorted q.0 (rw q.1 w) in
      sym p.1 ∙ ap raw (Algebra.sorted_eq B (Beneath N O) line s r (Typing.from_equal ground p.0 q.0 (rw (p.1, q.1) e))) ∙ q.1

  -- a term of a written polynomial is the coefficient there
  pub written_at : (h : Poly) → Written F O N h → (t : Term) → Memᴰ t h → Value.at F h (exponents t) ≡ t.coefficient
  written_at h w t m =
      let p = Typing.typed ground h w.over in
      let u = Typing.raw_term ground p.0 {t = t} (rw p.1 m) in
      let s = Algebra.sorted_at B (Beneath N O) line u.0 (written_sorted p.0 (rw p.1 w)) u.1 in
      subst (λ x. Value.at F h (exponents x) ≡ x.coefficient) (sym u.2) (subst (λ x. Value.at F x u.0.1.0 ≡ u.0.0.0) p.1 (Typing.raw_at ground p.0 u.0.1 ∙ ap (λ c. c.0) s.0))

  pub one_term : (h : Poly) → Written F O N h → (t s : Term) → Memᴰ t h → Memᴰ s h → exponents t ≡ exponents s → t ≡ s
  one_term h w t s m n e = let c : t.coefficient ≡ s.coefficient = sym (written_at h w t m) ∙ ap (Value.at F h) e ∙ written_at h w s n in λ i. record { coefficient = c i; monomial = record { exponents = e i } }

  -- a term of a written difference stands in one of the two
  pub fits_difference : (D : Split) (T : List Poly) (h f g : Poly) → Difference F O D N T h f g → Fits h → Fits f → Fits g
  fits_difference D T h f g d a b t m = ⊎_elim
      (λ r. subst (Bounded largest_exponent) r.is (Values.fits_minus F h f a b r.by r.stands))
      (λ z. absurd (omega (arith, d.written.nonzero t m, sym (written_at g d.written t m) ∙ d.value (exponents t) ∙ z)))
      (Values.occurs F (Value.minus F h f) (exponents t))

  falling_scaled : (c : ℕ) (a : List ℕ) → In N a → {f : Poly} → Over F N f → Falling O f → Falling O (scaled F c a f)
  falling_scaled c a w o none = none
  falling_scaled c a w o single = single
  falling_scaled c a w o (more_terms {t = t} {s = s} h f) = more_terms (Q.factor a (exponents s) (exponents t) w.wide (o s (Memᴰ.tail (Memᴰ.head refl))).1.wide (o t (Memᴰ.head refl)).1.wide ∙ h) (falling_scaled c a w (λ x k. o x (Memᴰ.tail k)) f)

  pub written_scaled : (c : ℕ) (a : List ℕ) → 0 < c → c < F.q → In N a → (f : Poly) → Written F O N f → Written F O N (scaled F c a f)
  written_scaled c a p h w f v = record {
    over = Ideals.over_scaled ground c a h w f v.over;
    nonzero = Ideals.each ground (λ f. Nonzero f → Nonzero (scaled F c a f)) (λ x n. rw (← (Typing.raw_scaled ground (c, h) (a, w) x)) (Typing.nonzero_scaled ground (c, h) (a, w) x p n)) f v.over v.nonzero;
    falling = falling_scaled c a w v.over v.falling;
  }
