-- One action at a term t before which no term has a divisor. The heads of t and of the multiple cancel, so that the
-- difference needs only the terms behind t and behind the row's leading term.
use Rattle.std.proofs.Common.{◌≡◌, ℕ, suc, ◌-◌, ◌<◌, ◌≤◌, cond, List, [], ◌∷◌, ◌++◌, length, get_or, sym, refl, ap, ◌∙◌, subst, ⊎_elim, append_assoc, arith}
use mathlib.Core.List.Memᴰ
use mathlib.Core.List.{Memᴰ}
use lib.ListN.{length-map}
use Rattle.std.proofs.lemmas.List.{get_or-map}
use Rattle.field.specs.Field.{FieldMeaning}
use Rattle.monomial.specs.Monomial.{In, Bounded, same, times, quotient, exponent}
use Rattle.monomial.specs.Order.{Compare, Under}
use Rattle.monomial.specs.Division.{Split, Involutive, member}
use Rattle.monomial.specs.Places.{low}
use Rattle.polynomial.specs.declared.term.Term.{Term}
use Rattle.polynomial.specs.Polynomial.{Poly, term, exponents, Over, Falling, Written, leading}
use Rattle.polynomial.specs.Check.{Fits, largest_exponent}
use Rattle.involutive.specs.Value.{at, scaled, negated, minus}
use Rattle.involutive.specs.Reduction.{Table, row, leaders, Reducible, multiple, Difference}
use Rattle.involutive.proofs.Ideals
use Rattle.involutive.proofs.Monomials.{in_quotient, times_comm, times_quotient}
use Rattle.involutive.proofs.Typing.{Ground}
use Rattle.involutive.proofs.Values.{occurs, scaled_term}
use Rattle.involutive.proofs.WrittenLists.{under_asym, written_at}
use Rattle.reduction.specs.Subtraction.{Differs}
use Rattle.reduction.proofs.Adding
use Rattle.reduction.proofs.Codes.{add_neg}
use Rattle.reduction.proofs.Terms.{Each, each_cons, each_head, each_tail, each_append, each_left, each_right, Tops, falling_head, falling_tail, falling_cons, falling_right}

negated_each : (F : FieldMeaning) (P : List ℕ → Type 0) (f : Poly) → Each (λ t. P (exponents t)) f → Each (λ t. P (exponents t)) (negated F f)
negated_each F P [] o = λ t m. elim m [ ]
negated_each F P (t ∷ f) o = each_cons (λ t. P (exponents t)) (each_head {P = λ t. P (exponents t)} o) (negated_each F P f (each_tail {P = λ t. P (exponents t)} o))

-- what stands in front counts the same in both
at_behind : (F : FieldMeaning) (d f g : Poly) (m : List ℕ) → at F f m ≡ at F g m → at F (d ++ f) m ≡ at F (d ++ g) m
at_behind F [] f g m e = e
at_behind F (t ∷ d) f g m e = ap (λ y. cond (same (exponents t) m) (F.add t.coefficient y) y) (at_behind F d f g m e)

tops_each : (O : Compare) (u : List ℕ) (f : Poly) → Each (λ s. Under O (exponents s) u) f → Tops O u f
tops_each O u [] h = tt
tops_each O u (s ∷ f) h = h s (Memᴰ.head refl)

module _ (G : Ground) where
  open G use {field as F, laws as L, order as O, order_laws as Q, variables as n}

  abbrev Good : Term → Type 0
  Good = Adding.Good F L O Q n

  pub written_right : (d f : Poly) → Written F O n (d ++ f) → Written F O n f
  written_right d f w = record {
    over = each_right d f w.over;
    nonzero = each_right d f w.nonzero;
    falling = falling_right d f w.falling;
  }

  -- the terms behind t stand below it
  laters : (t : Term) (f : Poly) → Over F n (t ∷ f) → Falling O (t ∷ f) → Each (λ s. Under O (exponents s) (exponents t)) f
  laters t [] o h = λ s m. elim m [ ]
  laters t (s ∷ f) o h =
      each_cons (λ r. Under O (exponents r) (exponents t)) (falling_head (s ∷ f) h)
      (λ r m. Q.transitive (exponents r) (exponents s) (exponents t) (o r (Memᴰ.tail (Memᴰ.tail m))).1.wide (o s (Memᴰ.tail (Memᴰ.head refl))).1.wide (o t (Memᴰ.head refl)).1.wide
      (laters s f (each_tail {P = Good} o) (falling_tail (s ∷ f) h) r m) (falling_head (s ∷ f) h))

  -- g in place of t and what stands behind it
  falling_join : (d : Poly) (t : Term) (f g : Poly) → Over F n (d ++ t ∷ f) → Falling O (d ++ t ∷ f) → Over F n g → Falling O g → Tops O (exponents t) g → Falling O (d ++ g)
  falling_join [] t f g o h p k u = k
  falling_join (x ∷ d) t f g o h p k u = falling_cons x (d ++ g) (top d o h) (falling_join d t f g (each_tail {P = Good} o) (falling_tail (d ++ t ∷ f) h) p k u)
    where
      top : (d : Poly) → Over F n (x ∷ (d ++ t ∷ f)) → Falling O (x ∷ (d ++ t ∷ f)) → Tops O (exponents x) (d ++ g)
      top [] o h = Adding.tops_up F L O Q n (exponents t) (exponents x) g (o t (Memᴰ.tail (Memᴰ.head refl))).1.wide (o x (Memᴰ.head refl)).1.wide p (falling_head (t ∷ f) h) u
      top (y ∷ d) o h = falling_head (y ∷ (d ++ t ∷ f)) h

  -- what holds of the monomials of both lists holds of those of their difference
  differs_each : (P : List ℕ → Type 0) {h f g : Poly} → Differs F O n h f g → Each (λ t. P (exponents t)) h → Each (λ t. P (exponents t)) f → Each (λ t. P (exponents t)) g
  differs_each P {h} {f} {g} d a b t m =
      ⊎_elim
      (λ r. subst P r.is (each_append (λ t. P (exponents t)) h (negated F f) a (negated_each F P f b) r.by r.stands))
      (λ z. absurd (omega (arith, d.written.nonzero t m, sym (written_at G g d.written t m) ∙ d.value (exponents t) ∙ z)))
      (occurs F (minus F h f) (exponents t))

  -- s has no involutive divisor
  abbrev pub Clean : Split → Table → Term → Type 0
  Clean D T s = (j : ℕ) → Involutive D (leaders T) j (exponents s) → ⊥

  -- an action: at the term t, by row k, whose leading term is l; no term before t has a divisor
  pub record Action (D : Split) (T : Table) (fine : Poly) (t : Term) (rest : Poly) (k : ℕ) (l : Term) (tail : Poly) : Type 0 where
    pub written : Written F O n (fine ++ t ∷ rest)
    pub small : Fits (fine ++ t ∷ rest)
    pub clean : Each (Clean D T) fine
    pub divisor : Involutive D (leaders T) k (exponents t)
    pub row_is : row T k ≡ l ∷ tail
    pub row_written : Written F O n (l ∷ tail)
    pub monic : l.coefficient ≡ 1

  module _ {D : Split} {T : Table} {fine : Poly} {t : Term} {rest : Poly} {k : ℕ} {l : Term} {tail : Poly} (A : Action D T fine t rest k l tail) where
    abbrev W : Written F O n (fine ++ t ∷ rest)
    W = A.written

    abbrev W' : Written F O n (l ∷ tail)
    W' = A.row_written

    abbrev c : ℕ
    c = t.coefficient

    abbrev a : List ℕ
    a = quotient (exponents t) (exponents l)

    here : Memᴰ t (fine ++ t ∷ rest)
    here = Memᴰ.append_right fine (Memᴰ.head refl)

    at_t : (c < F.q) × In n (exponents t)
    at_t = W.over t here

    at_l : (l.coefficient < F.q) × In n (exponents l)
    at_l = W'.over l (Memᴰ.head refl)

    behind : Each (λ s. Under O (exponents s) (exponents t)) rest
    behind = laters t rest (each_right {P = Good} fine (t ∷ rest) W.over) (falling_right fine (t ∷ rest) W.falling)

    pub reducible : Reducible F O D n T (fine ++ t ∷ rest) t k
    reducible = record {
      stands = here;
      divisor = A.divisor;
      greatest = λ s m u j i. ⊎_elim (λ p. A.clean s p j i) (λ p. ⊎_elim (λ e. loops (subst (λ x. Under O (exponents t) (exponents x)) e u)) (λ q. under_asym Q (exponents t) (exponents s) at_t.1.wide (W.over s m).1.wide u (behind s q)) (Memᴰ.cases_cons p)) (Memᴰ.append_cases fine m);
    }
      where
        loops : Under O (exponents t) (exponents t) → ⊥
        loops u = under_asym Q (exponents t) (exponents t) at_t.1.wide at_t.1.wide u u

    lead : member (leaders T) k ≡ exponents l
    lead = let h : k - 1 < length T = (let w = A.divisor.within in omega (arith, length-map T leading)) in get_or-map leading T (k - 1) [] [] h ∙ ap leading A.row_is

    whole : times a (exponents l) ≡ exponents t
    whole = times_comm a (exponents l) ∙ times_quotient (exponents l) (exponents t) (at_l.1.wide ∙ sym at_t.1.wide)
        (λ i. subst (λ j. get_or (exponents l) j 0 ≤ get_or (exponents t) j 0) (low i) (subst (λ u. exponent u (suc i) ≤ exponent (exponents t) (suc i)) lead (A.divisor.divides (suc i))))

    pub shift_in : In n a
    shift_in = in_quotient (exponents l) at_t.1 at_l.1.wide

    pub written_tail : Written F O n tail
    written_tail = written_right (l ∷ []) tail W'

    pub written_behind : Written F O n rest
    written_behind = written_right (fine ++ t ∷ []) rest (subst (Written F O n) (sym (append_assoc fine (t ∷ []) rest)) W)

    head_is : F.mul c l.coefficient ≡ c
    head_is = ap (F.mul c) A.monic ∙ L.mul_comm c 1 at_t.0 L.differ ∙ L.one_neutral c at_t.0

    -- the multiple has t's term in front
    multiple_is : multiple F O D n T t k ≡ term c (exponents t) ∷ scaled F c a tail
    multiple_is = ap (λ r. scaled F c (quotient (exponents t) (leading r)) r) A.row_is ∙ (λ i. term (head_is i) (whole i) ∷ scaled F c a tail)

    pub fits_multiple : Fits (scaled F c a tail) → Fits (multiple F O D n T t k)
    fits_multiple h = subst Fits (sym multiple_is) (each_cons (λ s. Bounded largest_exponent (exponents s)) (A.small t here) h)

    pub wide_multiple : (Fits (scaled F c a tail) → ⊥) → Fits (multiple F O D n T t k) → ⊥
    wide_multiple h f = h (each_tail {P = λ s. Bounded largest_exponent (exponents s)} (subst Fits multiple_is f))

    module _ {g : Poly} (d : Differs F O n rest (scaled F c a tail) g) where
      -- everything that is left is below t
      below : Each (λ s. Under O (exponents s) (exponents t)) g
      below = differs_each (λ u. Under O u (exponents t)) d behind
          (λ s m. let r = scaled_term F c a tail s m in
          subst (λ x. Under O (exponents x) (exponents t)) (sym r.2) (subst (Under O (times a (exponents r.0))) whole
          (Q.factor a (exponents r.0) (exponents l) shift_in.wide (W'.over r.0 (Memᴰ.tail r.1)).1.wide at_l.1.wide ∙ laters l tail W'.over W'.falling r.0 r.1)))

      pub topped : Tops O (exponents t) g
      topped = tops_each O (exponents t) g below

      over_tail : Over F n (negated F (scaled F c a tail))
      over_tail = Ideals.over_negated G (scaled F c a tail) (Ideals.over_scaled G c a at_t.0 shift_in tail written_tail.over)

      -- t and the first term of the negated multiple cancel
      cancel : (m : List ℕ) → at F (minus F rest (scaled F c a tail)) m ≡ at F (minus F (t ∷ rest) (term c (exponents t) ∷ scaled F c a tail)) m
      cancel m =
          let x : ℕ = at F (minus F rest (scaled F c a tail)) m in
          let b : x < F.q = Adding.at_below F L O Q n (minus F rest (scaled F c a tail)) (each_append Good rest (negated F (scaled F c a tail)) written_behind.over over_tail) m in
          sym (ap (λ y. cond (same (exponents t) m) (F.add c y) y) (Adding.in_front F L O Q n rest (negated F (scaled F c a tail)) (term (F.neg c) (exponents t)) written_behind.over over_tail (L.neg_below c at_t.0) m)
          ∙ Adding.gone_cond (same (exponents t) m) F.add c (F.neg c) x (add_neg F L c x at_t.0 b))

      pub difference : Difference F O D n T (fine ++ t ∷ rest) (multiple F O D n T t k) (fine ++ g)
      difference = record {
        written = record {
          over = each_append Good fine g (each_left fine (t ∷ rest) W.over) d.written.over;
          nonzero = each_append (λ s. 0 < s.coefficient) fine g (each_left fine (t ∷ rest) W.nonzero) d.written.nonzero;
          falling = falling_join fine t rest g W.over W.falling d.written.over d.written.falling topped;
        };
        value = λ m. at_behind F fine g (minus F (t ∷ rest) (term c (exponents t) ∷ scaled F c a tail)) m (d.value m ∙ cancel m)
            ∙ ap (λ f. at F f m) (sym (append_assoc fine (t ∷ rest) (negated F (term c (exponents t) ∷ scaled F c a tail))))
            ∙ ap (λ f. at F (minus F (fine ++ t ∷ rest) f) m) (sym multiple_is);
      }

      pub fits_new : Fits (scaled F c a tail) → Fits (fine ++ g)
      fits_new h =
          each_append (λ s. Bounded largest_exponent (exponents s)) fine g (each_left fine (t ∷ rest) A.small)
          (differs_each (Bounded largest_exponent) d (λ s m. A.small s (Memᴰ.append_right fine (Memᴰ.tail m))) h)
