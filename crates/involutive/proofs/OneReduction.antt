-- Reducing comes to one thing: the greatest reducible term, the row that divides it and the written difference are determined.
use Rattle.std.proofs.Common.{◌≡◌, ℕ, ◌⊎◌, List, length, sym, refl, ap, ◌∙◌, subst, subst₂, inl, inr, arith}
use Rattle.polynomial.specs.declared.term.Term.{Term}
use Rattle.monomial.specs.Monomial.{In, Wide}
use Rattle.monomial.specs.Division.{Distinct, Involutive}
use Rattle.involutive.specs.Value
use Rattle.polynomial.specs.Polynomial.{Poly, exponents, Written}
use Rattle.involutive.specs.Value.{minus}
use Rattle.involutive.specs.Reduction.{Table, leaders, Outcome, refused, Reducible, multiple, Difference, Reduces, done, wide, long, acts, refuse}
use Rattle.polynomial.specs.Check.{Fits}
use Rattle.involutive.specs.Sheet.{Setting, State, Lawful}
use Rattle.involutive.specs.Answers.{ReducesTo}
use Rattle.involutive.proofs.Monomials.{Mono}
use Rattle.involutive.proofs.Typing.{ground_of, words, Beneath}
use Rattle.involutive.proofs.Soundness
use Rattle.involutive.specs.Sound.{Sound}
use Rattle.involutive.proofs.WrittenLists

module _ (S : Setting) (W : Lawful S) where
  open S use {field as F, variables as N, order as O, division as D}
  open words (ground_of S W) use {ground}

  module _ (T : Table) (U : Distinct (leaders T)) where
    -- the row that divides is one: the law that no monomial has two involutive divisors
    one_row : (m : List ℕ) → Wide m → (j k : ℕ) → Involutive D (leaders T) j m → Involutive D (leaders T) k m → j ≡ k
    one_row m w j k a b = W.division.no_two (leaders T) U m w j k a b

    one_action : (h : Poly) → Written F O N h → (t s : Term) (k j : ℕ) → Reducible F O D N T h t k → Reducible F O D N T h s j → (t ≡ s) × (k ≡ j)
    one_action h w t s k j a b = go (WrittenLists.under_tri ground (exponents t, x) (exponents s, y))
      where
        x : In N (exponents t)
        x = (w.over t a.stands).1

        y : In N (exponents s)
        y = (w.over s b.stands).1

        go : Beneath N O (exponents t, x) (exponents s, y) ⊎ ((◌≡◌ {A = Mono N} (exponents t, x) (exponents s, y)) ⊎ Beneath N O (exponents s, y) (exponents t, x)) → (t ≡ s) × (k ≡ j)
        go (inl l) = absurd (a.greatest s b.stands l j b.divisor)
        go (inr (inr l)) = absurd (b.greatest t a.stands l k a.divisor)
        go (inr (inl e)) =
            let d : t ≡ s = WrittenLists.one_term ground h w t s a.stands b.stands (ap (λ m. m.0) e) in
            (d, one_row (exponents t) x.wide k j a.divisor (subst (λ t. Involutive D (leaders T) j (exponents t)) (sym d) b.divisor))

    one_difference : (h : Poly) → Written F O N h → (t s : Term) (k j : ℕ) → Reducible F O D N T h t k → Reducible F O D N T h s j → (g g' : Poly) → Difference F O D N T h (multiple F O D N T t k) g → Difference F O D N T h (multiple F O D N T s j) g' → g ≡ g'
    one_difference h w t s k j a b g g' x y =
        let e = one_action h w t s k j a b in
        WrittenLists.written_eq ground g g' x.written y.written (λ m. x.value m ∙ ap (λ f. Value.at F (minus F h f) m) (λ i. multiple F O D N T (e.0 i) (e.1 i)) ∙ sym (y.value m))

    -- reducing comes to one thing
    pub reduces_one : {room : ℕ} {h : Poly} {o o' : Outcome} → Reduces F O D N T room h o → Written F O N h → Reduces F O D N T room h o' → o ≡ o'
    reduces_one (done i) w (done j) = refl
    reduces_one (done i) w (wide r f) = absurd (i _ r.stands _ r.divisor)
    reduces_one (done i) w (long r f x l) = absurd (i _ r.stands _ r.divisor)
    reduces_one (done i) w (acts r f x l q) = absurd (i _ r.stands _ r.divisor)
    reduces_one (wide r f) w (done j) = absurd (j _ r.stands _ r.divisor)
    reduces_one (wide {h = h} r f) w (wide r' f') = let e = one_action h w _ _ _ _ r r' in ap (λ k. refused (refuse 9 k)) e.1
    reduces_one (wide {h = h} r f) w (long r' f' x l) = let e = one_action h w _ _ _ _ r r' in absurd (f (subst₂ (λ t k. Fits (multiple F O D N T t k)) (sym e.0) (sym e.1) f'))
    reduces_one (wide {h = h} r f) w (acts r' f' x l q) = let e = one_action h w _ _ _ _ r r' in absurd (f (subst₂ (λ t k. Fits (multiple F O D N T t k)) (sym e.0) (sym e.1) f'))
    reduces_one (long r f x l) w (done j) = absurd (j _ r.stands _ r.divisor)
    reduces_one (long {h = h} r f x l) w (wide r' f') = let e = one_action h w _ _ _ _ r r' in absurd (f' (subst₂ (λ t k. Fits (multiple F O D N T t k)) e.0 e.1 f))
    reduces_one (long {h = h} r f x l) w (long r' f' x' l') = let e = one_action h w _ _ _ _ r r' in ap (λ k. refused (refuse 10 k)) e.1
    reduces_one (long {h = h} {g = g} {t = t} {k = k} r f x l) w (acts {g = g'} {t = t'} {k = k'} r' f' x' l' q) = let e = one_difference h w t t' k k' r r' g g' x x' in absurd (omega (arith, ap length e))
    reduces_one (acts r f x l q) w (done j) = absurd (j _ r.stands _ r.divisor)
    reduces_one (acts {h = h} r f x l q) w (wide r' f') = let e = one_action h w _ _ _ _ r r' in absurd (f' (subst₂ (λ t k. Fits (multiple F O D N T t k)) e.0 e.1 f))
    reduces_one (acts {h = h} {g = g} {t = t} {k = k} r f x l q) w (long {g = g'} {t = t'} {k = k'} r' f' x' l') = let e = one_difference h w t t' k k' r r' g g' x x' in absurd (omega (arith, ap length e))
    reduces_one {room} {h} {o} {o'} (acts {g = g} {t = t} {k = k} r f x l q) w (acts {g = g'} {t = t'} {k = k'} r' f' x' l' q') = let e = one_difference h w t t' k k' r r' g g' x x' in reduces_one q x.written (subst (λ g. Reduces F O D N T room g o') (sym e) q')

  -- and so by the table of a sound sheet
  pub reduced_one : {s : State} → Sound S s → {room : ℕ} {h : Poly} {o o' : Outcome} → Written F O N h → ReducesTo S s room h o → ReducesTo S s room h o' → o ≡ o'
  reduced_one {s} I {room} {h} {o} {o'} w a b = reduces_one s.rows (Soundness.distinct S W I) {room = room} {h = h} {o = o} {o' = o'} a w b
