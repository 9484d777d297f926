-- The table of a closed sheet: every multiple of a row is a sum of involutive multiples, so remainders are determined and the minimal rows generate.
use Rattle.std.proofs.Common.{◌≡◌, ℕ, zero, suc, ◌-◌, ◌<◌, ◌≤◌, Bool, true, false, ◌⊎◌, List, [], ◌∷◌, map, length, get_or, Some, sym, ap, ◌∙◌, subst, inl, inr, ⊎_elim, arith}
use mathlib.Core.List.Memᴰ
use mathlib.Core.List.{Memᴰ}
use mathlib.Core.WellFounded.InvImage
use mathlib.Core.WellFounded.{Acc}
use native.Mathlib.Decide.{dec_lt}
use Rattle.involutive.proofs.Walks
use Rattle.std.proofs.lemmas.Bool.{cases_eq}
use Rattle.monomial.specs.Division.{Within, Involutive, Next}
use Rattle.monomial.specs.Monomial.{exponent, variable, times}
use Rattle.involutive.specs.Value
use Rattle.involutive.specs.Sheet.{Setting, Lawful}
use Rattle.involutive.specs.Reduction.{Irreducible, row, leaders, left, Reduces}
use Rattle.involutive.proofs.Algebra
use Rattle.involutive.proofs.Algebra.{Base, Span}
use Rattle.involutive.proofs.Sums
use Rattle.involutive.proofs.Monomials
use Rattle.involutive.proofs.Monomials.{Mono}
use Rattle.involutive.proofs.Typing.{bare, ground_of, words, Code, Beneath}
use Rattle.involutive.proofs.Tables
use Rattle.involutive.proofs.Tables.{Monic, Good}
use Rattle.involutive.proofs.WrittenLists
use Rattle.involutive.proofs.Lists

module _ (S : Setting) (W : Lawful S) where
  open S use {field as F, variables as N, order as O, division as D}
  open W use {division as E}
  open words (ground_of S W) use {ground, B, Typed, raw, lead, minus, Sorted, nth}

  module _ (T : List Typed) (G : Good S W T) where
    abbrev U : List (List ℕ)
    U = leaders (map raw T)

    abbrev R : Type 0
    R = Tables.R S W T G

    abbrev Mul : R → Mono N → Type 0
    Mul = Tables.Mul S W T G

    abbrev chart : Sums.Chart B
    chart = Tables.chart S W T G

    -- a variable of a that is not multiplicative for row k, or none
    record Other (k : R) (a : Mono N) (n : ℕ) : Type 0 where
      v : ℕ
      within : Within v n
      inside : 0 < exponent a.0 v
      not_multiplicative : D U k.0 v ≡ Some false

    scan : (k : R) (a : Mono N) (n : ℕ) → n ≤ N → ((v : ℕ) → Within v n → 0 < exponent a.0 v → D U k.0 v ≡ Some true) ⊎ Other k a n
    scan k a zero h = inl (λ v w i. absurd (omega arith))
    scan k a (suc n) h = go (scan k a n (omega arith)) (dec_lt 0 (exponent a.0 (suc n))) (E.answers U k.0 (suc n) (Tables.in_u S W T G k.1) (omega arith, omega arith))
      where
        go : ((v : ℕ) → Within v n → 0 < exponent a.0 v → D U k.0 v ≡ Some true) ⊎ Other k a n → Dec (0 < exponent a.0 (suc n)) → (b : Bool) × (D U k.0 (suc n) ≡ Some b) →
            ((v : ℕ) → Within v (suc n) → 0 < exponent a.0 v → D U k.0 v ≡ Some true) ⊎ Other k a (suc n)
        go (inr o) d b = inr (record { v = o.v; within = (o.within.0, omega arith); inside = o.inside; not_multiplicative = o.not_multiplicative })
        go (inl f) (no d) b = inl (λ v w i. ⊎_elim (λ e. absurd (d (subst (λ x. 0 < exponent a.0 x) e i))) (λ e. f v (w.0, omega arith) i) (cases_eq v (suc n)))
        go (inl f) (yes d) (true, b) = inl (λ v w i. ⊎_elim (λ e. ap (D U k.0) e ∙ b) (λ e. f v (w.0, omega arith) i) (cases_eq v (suc n)))
        go (inl f) (yes d) (false, b) = inr (record { v = suc n; within = (omega arith, omega arith); inside = d; not_multiplicative = b })

    abbrev NextRow : R → R → Type 0
    NextRow k j = Next D U k.0 j.0

    -- each prolongation by a variable that is not multiplicative reduces to nothing
    abbrev pub Closes : Type 0
    Closes = (k v : ℕ) → Within k (length T) → Within v N → D U k v ≡ Some false → (room : ℕ) × Reduces F O D N (map raw T) room (Value.scaled F 1 (variable v) (row (map raw T) k)) (left [])

    module _ (closed : Closes) where
      not_zero : B.𝟙 ≡ B.𝟘 → ⊥
      not_zero e = let z : ◌≡◌ {A = ℕ} 1 0 = ap (λ x. x.0) e in omega arith

      split : (k : R) (a : Mono N) → Mul k a ⊎ Sums.Prolongation B chart NextRow k a
      split k a = ⊎_elim (λ m. inl m) (λ o. inr (go o)) (scan k a N (omega arith))
        where
          go : Other k a N → Sums.Prolongation B chart NextRow k a
          go o =
              let x : Mono N = Monomials.var o.v o.within in
              let c = closed k.0 o.v k.1 o.within o.not_multiplicative in
              Sums.prolongation B chart not_zero k a x (Monomials.over a x)
              (sym (Monomials.mul_over x a (Monomials.variable_divides a o.v (o.within.0, omega arith) o.inside)) ∙ Monomials.mul_comm x (Monomials.over a x))
              (Tables.prolonged_sum S W T G k o.v o.within c.1)
              (λ j b m e. record {
                from = Tables.in_u S W T G k.1;
                by = o.v;
                by_within = (o.within.0, omega arith);
                not_multiplicative = o.not_multiplicative;
                divisor = subst (λ y. Involutive D U j.0 y) (ap (λ y. y.0) e ∙ ap (times (variable o.v)) (sym (Tables.member_lead S W T G k.0 k.1))) (Tables.involutive S W T G j b m);
              })

      row_wf : (k : R) → Acc (λ j k. NextRow k j) k
      row_wf k = InvImage.accessible (λ k. k.0) (Walks.next_wf D U (λ k w. E.no_return U (Tables.distinct S W T G) k w) k.0)

      span_sum : {v : Algebra.V B} → Span B T v → Sums.Sum B chart (λ m. Unit) v
      span_sum (Algebra.none e) = Sums.nil e
      span_sum (Algebra.more {w = w} {g = g} c a h s e) =
          let i = Lists.member_entry [] T h in
          let k : R = (suc i.0, omega arith) in
          let d : g ≡ nth T k.0 = i.2 ∙ ap (λ x. get_or T x []) (omega arith) in
          subst (Sums.Sum B chart (λ m. Unit)) (sym (e ∙ ap (λ x. Algebra.◌⊕◌ B (Algebra.shift B c a (Algebra.at B x)) w) d)) (Sums.sum-⊕ B chart (Sums.sum_map B chart (λ m y. tt) (Sums.tame B chart NextRow row_wf split c k a)) (span_sum s))

      absent : (p : Typed) → Irreducible F O D N (map raw T) (raw p) → Sums.Irreducible B chart (Algebra.at B p)
      absent p h k a m = Algebra.at_absent B p (Monomials.mul a (lead (nth T k.0))) (λ t i e. h (bare ground t) (Memᴰ.map (bare ground) i) k.0 (subst (λ y. Involutive D U k.0 y.0) (sym e) (Tables.involutive S W T G k a m)))

      -- irreducible polynomials that differ by a member of the ideal are the same
      pub one_remainder : (p q : Typed) → Sorted p → Sorted q → Irreducible F O D N (map raw T) (raw p) → Irreducible F O D N (map raw T) (raw q) → Span B T (minus p q) → p ≡ q
      one_remainder p q s t i j h = Algebra.sorted_eq B (Beneath N O) (WrittenLists.line ground) s t
          (Algebra.minus_zero B (Algebra.at B p) (Algebra.at B q) (Sums.irreducible_zero B chart (span_sum h) (λ k a m. Algebra.minus_off B (Algebra.at B p) (Algebra.at B q) _ (absent p i k a m) (absent q j k a m))))

      -- and so is one that differs so from the sum of two
      pub sum_remainder : (p q r : Typed) → Irreducible F O D N (map raw T) (raw p) → Irreducible F O D N (map raw T) (raw q) → Irreducible F O D N (map raw T) (raw r) → Span B T (Algebra.◌⊕◌ B (Algebra.at B p) (Algebra.⊖ B (Algebra.◌⊕◌ B (Algebra.at B q) (Algebra.at B r)))) → Algebra.at B p ≡ Algebra.◌⊕◌ B (Algebra.at B q) (Algebra.at B r)
      sum_remainder p q r i j k h = Algebra.minus_zero B (Algebra.at B p) (Algebra.◌⊕◌ B (Algebra.at B q) (Algebra.at B r)) (Sums.irreducible_zero B chart (span_sum h)
          (λ l a m. Algebra.minus_off B (Algebra.at B p) (Algebra.◌⊕◌ B (Algebra.at B q) (Algebra.at B r)) _ (absent p i l a m) (Algebra.plus_off B (Algebra.at B q) (Algebra.at B r) _ (absent q j l a m) (absent r k l a m))))

      -- the leading monomial of a member has an involutive divisor
      pub lead_divisor : (t : Code F × Mono N) (p : Typed) → Sorted (t ∷ p) → Span B T (Algebra.at B (t ∷ p)) → (k : ℕ) × Involutive D U k t.1.0
      lead_divisor t p s h =
          let q = Tables.sorted_parts S W s in
          let r = Sums.led B chart (span_sum h) t.1
          (λ z. q.2 (sym (Algebra.at_top B (Beneath N O) (WrittenLists.line ground) t p q.0) ∙ z))
          (λ u l. Algebra.at_below B (Beneath N O) (WrittenLists.line ground) (Algebra.more_below l (Algebra.below_up B (Beneath N O) (WrittenLists.line ground) l q.0))) in
          (r.k.0, subst (λ x. Involutive D U r.k.0 x.0) r.height (Tables.involutive S W T G r.k r.a r.mul))

      -- copies of the rows whose leading monomials are minimal
      abbrev pub leader : R → Mono N
      leader k = lead (nth T k.0)

      abbrev pub Lowest : R → Type 0
      Lowest k = (j : R) (a : Mono N) → leader k ≡ Monomials.mul (leader j) a → j.0 ≡ k.0

      pub record Copy (P : List Typed) (k : R) : Type 0 where
        pub poly : Typed
        pub inside : Span B P (Algebra.at B poly)
        pub monic : Monic S W poly
        pub leads : lead poly ≡ leader k
        pub span : Span B T (minus (nth T k.0) poly)

      record Lower (k : R) : Type 0 where
        j : R
        other : j.0 ≡ k.0 → ⊥
        a : Mono N
        is : leader k ≡ Monomials.mul (leader j) a

      look : (k : R) (n : ℕ) → n ≤ length T → ((j : R) → j.0 ≤ n → (a : Mono N) → leader k ≡ Monomials.mul (leader j) a → j.0 ≡ k.0) ⊎ Lower k
      look k zero h = inl (λ j l. absurd (omega arith))
      look k (suc n) h = go (look k n (omega arith)) (cases_eq (suc n) k.0) (Monomials.divide (leader (suc n, (omega arith, h))) (leader k))
        where
          go : ((j : R) → j.0 ≤ n → (a : Mono N) → leader k ≡ Monomials.mul (leader j) a → j.0 ≡ k.0) ⊎ Lower k → (suc n ≡ k.0) ⊎ (suc n ≡ k.0 → ⊥) → Dec ((a : Mono N) × (leader k ≡ Monomials.mul (leader (suc n, (omega arith, h))) a)) →
              ((j : R) → j.0 ≤ suc n → (a : Mono N) → leader k ≡ Monomials.mul (leader j) a → j.0 ≡ k.0) ⊎ Lower k
          go (inr o) e d = inr o
          go (inl f) (inl e) d = inl (λ j l a i. ⊎_elim (λ x. x ∙ e) (λ x. f j (omega arith) a i) (cases_eq j.0 (suc n)))
          go (inl f) (inr e) (yes d) = inr (record { j = (suc n, (omega arith, h)); other = e; a = d.0; is = d.1 })
          go (inl f) (inr e) (no d) = inl (λ j l a i. ⊎_elim (λ x. absurd (d (a, i ∙ ap (λ y. Monomials.mul (lead (nth T y)) a) x))) (λ x. f j (omega arith) a i) (cases_eq j.0 (suc n)))

      pub regenerate : (P : List Typed) → ((k : R) → Lowest k → Copy P k) → (k : R) → Span B P (Algebra.at B (nth T k.0))
      regenerate P copy = Sums.generated B chart (Span B P) (λ v e. Algebra.none e) (λ v w p q. Algebra.span-⊕ B p q) (λ c a v p. Algebra.span_shift B c a p) start
        where
          one_up : (a : Mono N) (j : R) → Algebra.shift B B.𝟙 a (Algebra.at B (nth T j.0)) (Monomials.mul (leader j) a) ≡ B.𝟙
          one_up a j = ap (Algebra.shift B B.𝟙 a (Algebra.at B (nth T j.0))) (Monomials.mul_comm (leader j) a) ∙ Sums.term_at B chart B.𝟙 a j

          member : (k : R) → Memᴰ (nth T k.0) T
          member k = Lists.entry_member [] T (k.0 - 1) (omega arith)

          start : (k : R) → ((j : R) → Beneath N O (leader j) (leader k) → Span B P (Algebra.at B (nth T j.0))) → Sums.Start B chart (Span B P) k
          start k ih = go (look k (length T) (omega arith))
            where
              go : ((j : R) → j.0 ≤ length T → (a : Mono N) → leader k ≡ Monomials.mul (leader j) a → j.0 ≡ k.0) ⊎ Lower k → Sums.Start B chart (Span B P) k
              go (inl f) =
                  let c = copy k (λ j a e. f j j.1.1 a e) in
                  record {
                    value = Algebra.at B c.poly;
                    inside = c.inside;
                    one_at = subst (λ x. Algebra.at B c.poly x ≡ B.𝟙) c.leads (Tables.monic_one S W c.monic);
                    top_at = λ m l. Tables.monic_top S W m c.monic (subst (λ x. Beneath N O x m) (sym c.leads) l);
                    sum = span_sum c.span;
                  }
              go (inr o) =
                  let v : Algebra.V B = Algebra.shift B B.𝟙 o.a (Algebra.at B (nth T o.j.0)) in
                  let e : Monomials.mul o.a (leader o.j) ≡ leader k = Monomials.mul_comm o.a (leader o.j) ∙ sym o.is in
                  let l : Beneath N O (leader o.j) (leader k) = ⊎_elim (λ d. absurd (o.other (G.once o.j.0 k.0 o.j.1 k.1 (d ∙ e)))) (λ d. subst (Beneath N O (leader o.j)) e d) (Sums.raise B chart o.a (leader o.j)) in
                  record {
                    value = v;
                    inside = Algebra.span_shift B B.𝟙 o.a (ih o.j l);
                    one_at = ap v o.is ∙ one_up o.a o.j;
                    top_at = λ m d. Sums.term_above B chart B.𝟙 o.a o.j m (subst (λ x. Beneath N O x m) (sym e) d);
                    sum = span_sum (Algebra.span-⊕ B (Algebra.span_gen B (member k)) (Algebra.span-⊖ B (Algebra.span_shift B B.𝟙 o.a (Algebra.span_gen B (member o.j)))));
                  }

      pub regenerate_all : (P : List Typed) → ((k : R) → Lowest k → Copy P k) → (g : Typed) → Memᴰ g T → Span B P (Algebra.at B g)
      regenerate_all P copy g h =
          let i = Lists.member_entry [] T h in
          let k : R = (suc i.0, omega arith) in
          let d : g ≡ nth T k.0 = i.2 ∙ ap (λ x. get_or T x []) (omega arith) in
          subst (λ x. Span B P (Algebra.at B x)) (sym d) (regenerate P copy k)
