-- What the theory of tables says of sheets, over lists of terms: what reducing leaves, and on a closed sheet what is irreducible,
-- what leads, and what the copies generate.
use Rattle.std.proofs.Common.{◌≡◌, ℕ, ◌-◌, Bool, List, [], ◌∷◌, ◌++◌, map, length, sym, ap, ◌∙◌, subst, subst₂, arith}
use mathlib.Core.List.Memᴰ
use mathlib.Core.List.{Memᴰ}
use lib.ListN.{length-map}
use Rattle.polynomial.specs.declared.term.Term.{Term}
use Rattle.monomial.specs.Monomial.{Divides}
use Rattle.monomial.specs.Division.{Within, Involutive}
use Rattle.involutive.specs.Value
use Rattle.polynomial.specs.Polynomial.{Poly, Over, exponents, Written, leading}
use Rattle.involutive.specs.Ideal.{Member, SameIdeal}
use Rattle.involutive.specs.Reduction.{Table, leaders, left, Irreducible, Reduces}
use Rattle.involutive.specs.Sheet.{Setting, State, Pair, Closed, Lawful}
use Rattle.polynomial.specs.Check.{most_terms}
use Rattle.involutive.specs.Answers.{ReducesTo, Minimal, Selection, Copies, copies}
use Rattle.involutive.proofs.Algebra
use Rattle.involutive.proofs.Algebra.{Base, Span}
use Rattle.involutive.proofs.Monomials
use Rattle.involutive.proofs.Monomials.{Mono}
use Rattle.involutive.proofs.Typing
use Rattle.involutive.proofs.Membership
use Rattle.involutive.proofs.Typing.{ground_of, words, base}
use Rattle.involutive.proofs.Ideals
use Rattle.involutive.proofs.Copying.{CopyOf, Beside, beside, copy_from, copy_to}
use Rattle.involutive.specs.Sound.{Sound}
use Rattle.involutive.proofs.Tables
use Rattle.involutive.proofs.Tables.{Good}
use Rattle.involutive.proofs.ClosedTables
use Rattle.involutive.proofs.ClosedTables.{Closes}
use Rattle.involutive.proofs.WrittenLists
use Rattle.involutive.proofs.Lists

module _ (S : Setting) (W : Lawful S) where
  open S use {field as F, variables as N, order as O, division as D}
  open words (ground_of S W) use {ground, B, Typed, raw, lead, Sorted, nth}

  -- a sheet with these rows
  abbrev st : Table → (ℕ → ℕ → Bool) → State
  st R m = record { rows = R; marks = m }

  -- what a closed sheet's marks say
  closing : (T : List Typed) (m : ℕ → ℕ → Bool) (G : Good S W T) → Sound S (st (map raw T) m) → Closed S (st (map raw T) m) → Closes S W T G
  closing T m G I c k u x y d =
      let p : Pair S (st (map raw T) m) k u = record { at_row = rw (length-map T raw) x; at_variable = y; not_multiplicative = d } in
      (most_terms, I.marked k u p (c k u p))

  -- the rows of a sound sheet are a table of typed polynomials
  on_sound : (s : State) → Sound S s → (Q : Table → Type 0) → ((T : List Typed) → Good S W T → Q (map raw T)) → Q s.rows
  on_sound s I Q h =
      let x = Typing.typeds ground s.rows (λ p m. (I.each p m).acceptable.written.over) in
      subst (λ R. Sound S (st R s.marks) → Q R) x.1 (λ J. h x.0 (Tables.typed_good S W x.0 s.marks J)) I

  on_closed : (s : State) → Sound S s → Closed S s → (Q : Table → Type 0) → ((T : List Typed) (G : Good S W T) → Closes S W T G → Q (map raw T)) → Q s.rows
  on_closed s I c Q h =
      let x = Typing.typeds ground s.rows (λ p m. (I.each p m).acceptable.written.over) in
      subst (λ R. Sound S (st R s.marks) → Closed S (st R s.marks) → Q R) x.1
      (λ J d. let G = Tables.typed_good S W x.0 s.marks J in h x.0 G (closing x.0 s.marks G J d)) I c

  pub rows_over : {s : State} → Sound S s → Ideals.Overs F N s.rows
  rows_over I f h = (I.each f h).acceptable.written.over

  sorted : (p : Typed) {f : Poly} → raw p ≡ f → Written F O N f → Sorted p
  sorted p e w = WrittenLists.written_sorted ground p (subst (Written F O N) (sym e) w)

  -- what reducing takes off lies in the ideal of the rows
  pub reduced_member : {s : State} → Sound S s → {room : ℕ} (h g : Poly) → Written F O N h → ReducesTo S s room h (left g) → Member F N s.rows (Value.minus F h g)
  reduced_member {s} I {room} h g w = on_sound s I (λ R. Reduces F O D N R room h (left g) → Member F N R (Value.minus F h g)) (λ T G r.
      let p = Typing.typed ground h w.over in
      let z = Tables.left_over S W T G {room = room} p.0 {g = g} (subst (λ h. Reduces F O D N (map raw T) room h (left g)) (sym p.1) r) (sorted p.0 p.1 w) in
      subst₂ (λ h g. Member F N (map raw T) (Value.minus F h g)) p.1 z.is (Ideals.from_span ground T p.0 z.poly z.span))

  -- the leading monomial of a member has an involutive divisor
  pub lead_divisor : (s : State) → Sound S s → Closed S s → (t : Term) (f : Poly) → Written F O N (t ∷ f) → Member F N s.rows (t ∷ f) → (k : ℕ) × Involutive D (leaders s.rows) k (exponents t)
  lead_divisor s I c t f w = on_closed s I c (λ R. Member F N R (t ∷ f) → (k : ℕ) × Involutive D (leaders R) k (exponents t)) (λ T G d m. go T G d (Typing.typed ground (t ∷ f) w.over) m)
    where
      go : (T : List Typed) (G : Good S W T) → Closes S W T G → (p : Typed) × (raw p ≡ t ∷ f) → Member F N (map raw T) (t ∷ f) → (k : ℕ) × Involutive D (leaders (map raw T)) k (exponents t)
      go T G d ([], e) m = cc
      go T G d (u ∷ p, e) m =
          let r = ClosedTables.lead_divisor S W T G d u p (sorted (u ∷ p) e w) (Membership.member_span ground T (u ∷ p) (subst (Member F N (map raw T)) (sym e) m)) in
          (r.0, subst (Involutive D (leaders (map raw T)) r.0) (ap leading e) r.1)

  -- irreducible polynomials that differ by a member are the same
  pub one_remainder : (s : State) → Sound S s → Closed S s → (f g : Poly) → Written F O N f → Written F O N g → Irreducible F O D N s.rows f → Irreducible F O D N s.rows g → Member F N s.rows (Value.minus F f g) → f ≡ g
  one_remainder s I c f g v w = on_closed s I c (λ R. Irreducible F O D N R f → Irreducible F O D N R g → Member F N R (Value.minus F f g) → f ≡ g) (λ T G d i j m.
      let p = Typing.typed ground f v.over in
      let q = Typing.typed ground g w.over in
      sym p.1 ∙ ap raw (ClosedTables.one_remainder S W T G d p.0 q.0 (sorted p.0 p.1 v) (sorted q.0 q.1 w)
      (subst (Irreducible F O D N (map raw T)) (sym p.1) i) (subst (Irreducible F O D N (map raw T)) (sym q.1) j)
      (Ideals.to_span ground T p.0 q.0 (subst₂ (λ f g. Member F N (map raw T) (Value.minus F f g)) (sym p.1) (sym q.1) m))) ∙ q.1)

  -- and one that differs so from a sum of two has the sum's value
  pub sum_remainder : (s : State) → Sound S s → Closed S s → (f : Poly) → Over F N f → (g : Poly) → Over F N g → (h : Poly) → Over F N h →
      Irreducible F O D N s.rows f → Irreducible F O D N s.rows g → Irreducible F O D N s.rows h → Member F N s.rows (Value.minus F f (Value.plus g h)) → Value.Equal F f (Value.plus g h)
  sum_remainder s I c = Ideals.each ground _ (λ p. Ideals.each ground _ (λ q. Ideals.each ground _ (λ r.
      on_closed s I c (λ R. Irreducible F O D N R (raw p) → Irreducible F O D N R (raw q) → Irreducible F O D N R (raw r) → Member F N R (Value.minus F (raw p) (Value.plus (raw q) (raw r))) → Value.Equal F (raw p) (Value.plus (raw q) (raw r))) (λ T G d i j k m.
      let a = Algebra.at-++ B q r in
      let e = ClosedTables.sum_remainder S W T G d p q r i j k
      (subst (λ v. Span B T (Algebra.◌⊕◌ B (Algebra.at B p) (Algebra.⊖ B v))) a (Ideals.to_span ground T p (q ++ r) (subst (λ x. Member F N (map raw T) (Value.minus F (raw p) x)) (sym (Typing.raw-++ ground q r)) m))) in
      subst (Value.Equal F (raw p)) (Typing.raw-++ ground q r) (Typing.to_equal ground p (q ++ r) (e ∙ sym a))))))

  -- the copy of row k, as a typed polynomial
  module _ (T : List Typed) (G : Good S W T) (m : ℕ → ℕ → Bool) (k : ℕ) (w : Within k (length T)) {f : Poly} (c : CopyOf S (st (map raw T) m) k f) where
    tidied : Tables.Tidied S W T G (k, w) f
    tidied = subst (Tables.Tidied S W T G (k, w)) (sym c.is) (Tables.tidied S W T G (k, w) c.reduced)

    tidied_span : Span B T (Algebra.at B tidied.poly)
    tidied_span = Algebra.span_back B _ _ tidied.span (Algebra.span_gen B (Lists.entry_member [] T (k - 1) (omega arith)))

    tidied_written : Written F O N f
    tidied_written =
        let s : Sorted tidied.poly = subst Sorted (sym tidied.monic.is) tidied.monic.sorted in
        subst (Written F O N) tidied.is (WrittenLists.sorted_written ground tidied.poly s)

  -- a copy is written, and a member
  pub record Fair (s : State) (k : ℕ) (f : Poly) : Type 0 where
    pub good : Written F O N f
    pub member : Member F N s.rows f

  pub fair : (s : State) → Sound S s → (k : ℕ) → Within k (length s.rows) → {f : Poly} → CopyOf S s k f → Fair s k f
  fair s I k w {f} c = on_sound s I (λ R. Within k (length R) → CopyOf S (st R s.marks) k f → Fair (st R s.marks) k f) (λ T G v d.
      let u : Within k (length T) = rw (length-map T raw) at v in
      let t = tidied T G s.marks k u d in
      record {
        good = tidied_written T G s.marks k u d;
        member = subst (Member F N (map raw T)) t.is (Membership.span_member ground T t.poly (tidied_span T G s.marks k u d));
      }) w c

  lowest_minimal : (T : List Typed) (m : ℕ → ℕ → Bool) (k : ℕ) (w : Within k (length T)) → ((j : (k : ℕ) × Within k (length T)) (a : Mono N) → lead (nth T k) ≡ Monomials.mul (lead (nth T j.0)) a → j.0 ≡ k) → Minimal S (st (map raw T) m) k
  lowest_minimal T m k w h = record {
    within = rw (length-map T raw) w;
    undivided = λ j v d. h (j, rw (length-map T raw) at v) (Monomials.over (lead (nth T k)) (lead (nth T j))) (sym (Monomials.mul_over (lead (nth T j)) (lead (nth T k)) (subst₂ Divides (Typing.row_lead ground T (j - 1)) (Typing.row_lead ground T (k - 1)) d)));
  }

  -- the copies generate the ideal of the rows
  pub copies_ideal : (s : State) → Sound S s → Closed S s → (ks : List ℕ) (fs : List Poly) → Selection S s ks → Copies S s ks (copies fs) → SameIdeal F N s.rows fs
  copies_ideal s I c ks fs = on_closed s I c (λ R. Selection S (st R s.marks) ks → Copies S (st R s.marks) ks (copies fs) → SameIdeal F N R fs) go
    where
      m : ℕ → ℕ → Bool
      m = s.marks

      go : (T : List Typed) (G : Good S W T) → Closes S W T G → Selection S (st (map raw T) m) ks → Copies S (st (map raw T) m) ks (copies fs) → SameIdeal F N (map raw T) fs
      go T G d sel cop = subst (SameIdeal F N (map raw T)) P.1 (Membership.same_ideal ground T P.0
          (ClosedTables.regenerate_all S W T G d P.0 (λ k low.
          let a = copy_to S (st (map raw T) m) b k.0 ((sel.minimal k.0).1 (lowest_minimal T m k.0 k.1 low)) in
          let t = tidied T G m k.0 k.1 a.copy in
          let r = Memᴰ.of_map raw P.0 (subst (Memᴰ a.f) (sym P.1) a.stands) in
          record { poly = t.poly; inside = subst (Span B P.0) (Typing.same_value ground r.0 t.poly (r.2 ∙ sym t.is)) (Algebra.span_gen B r.1); monic = t.monic; leads = t.leads; span = t.span }))
          (λ h k.
          let a = copy_from S (st (map raw T) m) b (raw h) (subst (Memᴰ (raw h)) P.1 (Memᴰ.map raw k)) in
          subst (Span B T) (Typing.same_value ground (tidied T G m a.k (within a.k a.stands) a.copy).poly h (tidied T G m a.k (within a.k a.stands) a.copy).is) (tidied_span T G m a.k (within a.k a.stands) a.copy)))
        where
          b : Beside S (st (map raw T) m) ks fs
          b = beside S (st (map raw T) m) cop

          within : (k : ℕ) → Memᴰ k ks → Within k (length T)
          within k h = rw (length-map T raw) at ((sel.minimal k).0 h).within

          P : (P : List Typed) × (map raw P ≡ fs)
          P = Typing.typeds ground fs (λ f h. let a = copy_from S (st (map raw T) m) b f h in (tidied_written T G m a.k (within a.k a.stands) a.copy).over)
