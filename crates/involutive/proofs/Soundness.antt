-- The invariant of a log: rows are written and monic, their leading monomials differ, and every marked pair reduces to nothing.
use Rattle.std.proofs.Common.{◌≡◌, ℕ, zero, suc, ◌-◌, ◌<◌, ◌≤◌, false, ◌&&◌, eqb, ◌⊎◌, List, [], ◌∷◌, ◌++◌, length, get_or, drop, None, sym, refl, ap, ◌∙◌, subst, subst₂, inl, inr, ⊎_elim, arith, length-append}
use mathlib.Core.List.Memᴰ
use mathlib.Core.List.{Memᴰ}
use lib.ListN.{length-map}
use Rattle.std.proofs.lemmas.Bool.{and_parts, or_cases, eqb-true, cases_eq, both_ways}
use Rattle.std.proofs.lemmas.List.{get_or-map, get_or_append_left, get_or_push}
use Rattle.polynomial.specs.declared.term.Term.{Term}
use Rattle.monomial.specs.Monomial.{Wide, Bounded, variable, one, quotient}
use Rattle.monomial.specs.Places.{at_quotient}
use Rattle.monomial.specs.Order.{Under}
use Rattle.monomial.specs.Division.{Within, Distinct, member}
use Rattle.polynomial.specs.Polynomial.{Poly, Over, term, exponents, Written, Falling, none, single, more, leading}
use Rattle.involutive.specs.Value.{scaled}
use Rattle.involutive.specs.Reduction.{Table, row, leaders, Outcome, left, Irreducible, multiple, Reduces, done, wide, long, acts}
use Rattle.involutive.specs.Sheet.{Setting, State, empty, most_rows, with_row, prolonged, Lawful}
use Rattle.involutive.specs.Answers.{first_fault, ReducesTo, Adds, Steps, Answer, Rising, rising_none, rising_one, rising_more, add_faulty, add_stuck, add_zero, add_full, add_row, step_closed, step_wide, step_stuck, step_mark, step_full, step_row}
use Rattle.polynomial.specs.Check.{Fits, Acceptable, most_terms, largest_exponent}
use Rattle.involutive.specs.Log.{Call, After, added, not_added, stepped, reduced, shown, copied, judged, made}
use Rattle.polynomial.proofs.Checking.{acceptable_from}
use Rattle.involutive.proofs.Monomials
use Rattle.involutive.proofs.Typing
use Rattle.involutive.proofs.WrittenLists
use Rattle.involutive.proofs.Typing.{ground_of, words, Code}
use Rattle.involutive.proofs.Values
use Rattle.involutive.specs.Sound.{Row, Sound, SoundnessKept}
use Rattle.involutive.proofs.Lists

quotient_self : (m : List ℕ) (i : ℕ) → get_or (quotient m m) i 0 ≡ 0
quotient_self m i = omega (arith, at_quotient m m refl i)

place : (T : Table) (p : Poly) (j : ℕ) → Within j (length (T ++ (p ∷ []))) → (Within j (length T) × (row (T ++ (p ∷ [])) j ≡ row T j)) ⊎ ((j ≡ suc (length T)) × (row (T ++ (p ∷ [])) j ≡ p))
place T p j w = ⊎_elim (λ e. inr (e, get_or_push T p [] (j - 1) (omega arith))) (λ e. let v : Within j (length T) = (w.0, omega (arith, n)) in inl (v, get_or_append_left T (p ∷ []) [] (j - 1) (omega arith))) (cases_eq j (suc (length T)))
  where
    n : length (T ++ (p ∷ [])) ≡ suc (length T)
    n = length-append T (p ∷ []) ∙ omega arith

module _ (S : Setting) (W : Lawful S) where
  open S use {field as F, variables as N, order as O}
  open W use {field as L}
  open words (ground_of S W) use {ground}

  -- actions keep a polynomial written, and what is left is irreducible
  pub reduces_written : {T : Table} {room : ℕ} {h : Poly} {o : Outcome} → Reduces F O S.division N T room h o → Written F O N h → (g : Poly) → o ≡ left g → Written F O N g × Irreducible F O S.division N T g
  reduces_written {T} (done {h = h} i) w g d = let e : h ≡ g = cc in (subst (Written F O N) e w, subst (Irreducible F O S.division N T) e i)
  reduces_written (wide r f) w g d = cc
  reduces_written (long r f x l) w g d = cc
  reduces_written (acts r f x l rest) w g d = reduces_written rest x.written g d

  -- nor do they outgrow the limits
  pub reduces_small : {T : Table} {room : ℕ} {h : Poly} {o : Outcome} → Reduces F O S.division N T room h o → Fits h → length h ≤ room → (g : Poly) → o ≡ left g → Fits g × (length g ≤ room)
  reduces_small {T} {room} (done {h = h} i) f l g d = let e : h ≡ g = cc in (subst Fits e f, subst (λ g. length g ≤ room) e l)
  reduces_small (wide r w) f l g d = cc
  reduces_small (long r w x m) f l g d = cc
  reduces_small {T} (acts {h = h} {g = g'} {t = t} {k = k} r w x m rest) f l g d = reduces_small rest (WrittenLists.fits_difference ground S.division T h (multiple F O S.division N T t k) g' x f w) m g d

  -- what is left of an acceptable polynomial is acceptable
  pub reduces_acceptable : {T : Table} {h g : Poly} → Reduces F O S.division N T most_terms h (left g) → Acceptable F O N h → Acceptable F O N g × Irreducible F O S.division N T g
  reduces_acceptable {g = g} r a =
      let w = reduces_written r a.written g refl in
      let s = reduces_small r a.fits a.short g refl in
      (record { written = w.0; fits = s.0; short = s.1 }, w.1)

  -- a polynomial with every coefficient multiplied by c
  fits_scaled_one : (c : ℕ) (f : Poly) → Over F N f → Fits f → Fits (scaled F c one f)
  fits_scaled_one c f o h t m =
      let r = Values.scaled_term F c one f t m in
      let e : exponents r.0 ≡ exponents t = sym (ap (λ x. x.0) (Monomials.unit_mul (exponents r.0, (o r.0 r.1).1))) ∙ sym (ap exponents r.2) in
      subst (Bounded largest_exponent) e (h r.0 r.1)

  -- a row is its leading term and others
  pub first_term : (f : Poly) → Row S f → (tail : Poly) × (f ≡ term 1 (leading f) ∷ tail)
  first_term [] r = absurd (omega (arith, r.monic))
  first_term (t ∷ f) r = (f, λ i. record { coefficient = r.monic i; monomial = record { exponents = exponents t } } ∷ f)

  -- the leading monomial of what is irreducible is no row's
  pub fresh : (T : Table) (t : Term) (g : Poly) → Irreducible F O S.division N T (t ∷ g) → (k : ℕ) → Within k (length T) → leading (row T k) ≡ exponents t → ⊥
  fresh T t g i k v e = i t (Memᴰ.head refl) k (record {
    within = rw (length-map T leading) v;
    divides = rw a (λ u. omega arith);
    multiplicative = λ u x h. absurd (omega (arith, h, subst (λ x. get_or (quotient (exponents t) x) (u - 1) 0 ≡ 0) (sym a) (quotient_self (exponents t) (u - 1))));
  })
    where
      a : member (leaders T) k ≡ exponents t
      a = get_or-map leading T (k - 1) [] [] (omega arith) ∙ e

  -- divided by its leading coefficient it is a row, and its leading monomial stays
  pub monic_leads : (t : Term) (g : Poly) → Acceptable F O N (t ∷ g) → leading (scaled F (F.inv t.coefficient) one (t ∷ g)) ≡ exponents t
  monic_leads t g a = ap (λ m. m.0) (Monomials.unit_mul (exponents t, (a.written.over t (Memᴰ.head refl)).1))

  pub monic_row : (t : Term) (g : Poly) → Acceptable F O N (t ∷ g) → Row S (scaled F (F.inv t.coefficient) one (t ∷ g))
  monic_row t g a =
      let w = a.written in
      let c : Code F = (t.coefficient, (w.over t (Memᴰ.head refl)).0) in
      let p : 0 < t.coefficient = w.nonzero t (Memᴰ.head refl) in
      let d = Typing.inverse ground c p in
      let b : F.inv t.coefficient < F.q = L.inv_below t.coefficient p c.1 in
      record {
        acceptable = record {
          written = WrittenLists.written_scaled ground (F.inv t.coefficient) one (subst (λ x. 0 < x) d.is d.pos) b Monomials.in_one (t ∷ g) w;
          fits = fits_scaled_one (F.inv t.coefficient) (t ∷ g) w.over a.fits;
          short = subst (λ k. k ≤ most_terms) (sym (Values.length_scaled F (F.inv t.coefficient) one (t ∷ g))) a.short;
        };
        monic = L.mul_comm _ _ b c.1 ∙ L.inverts t.coefficient p c.1;
      }

  pub new_row : {s : State} {t : Term} {g : Poly} → Sound S s → length s.rows < most_rows → Acceptable F O N (t ∷ g) → Irreducible F O S.division N s.rows (t ∷ g) → Sound S (with_row S s (t ∷ g))
  new_row {s} {t} {g} I room a i =
      let l = monic_leads t g a in
      let r : Row S n = monic_row t g a in
      record {
        each = Lists.both (Row S) s.rows n I.each r;
        few = omega (arith, room, length-append s.rows (n ∷ []));
        once = λ j k x y e. go l j k e (place s.rows n j x) (place s.rows n k y);
        marked = λ k v q e. absurd (both_ways false refl e);
      }
    where
      n : Poly
      n = scaled F (F.inv t.coefficient) one (t ∷ g)

      go : leading n ≡ exponents t → (j k : ℕ) → leading (row (s.rows ++ (n ∷ [])) j) ≡ leading (row (s.rows ++ (n ∷ [])) k) →
          (Within j (length s.rows) × (row (s.rows ++ (n ∷ [])) j ≡ row s.rows j)) ⊎ ((j ≡ suc (length s.rows)) × (row (s.rows ++ (n ∷ [])) j ≡ n)) →
          (Within k (length s.rows) × (row (s.rows ++ (n ∷ [])) k ≡ row s.rows k)) ⊎ ((k ≡ suc (length s.rows)) × (row (s.rows ++ (n ∷ [])) k ≡ n)) → j ≡ k
      go l j k e (inl x) (inl y) = I.once j k x.0 y.0 (ap leading (sym x.1) ∙ e ∙ ap leading y.1)
      go l j k e (inl x) (inr y) = absurd (fresh s.rows t g i j x.0 (ap leading (sym x.1) ∙ e ∙ ap leading y.1 ∙ l))
      go l j k e (inr x) (inl y) = absurd (fresh s.rows t g i k y.0 (ap leading (sym y.1) ∙ sym e ∙ ap leading x.1 ∙ l))
      go l j k e (inr x) (inr y) = x.0 ∙ sym y.0

  -- a row, or nothing where there is none
  rows_written : (T : Table) → ((p : Poly) → Memᴰ p T → Row S p) → (i : ℕ) → Written F O N (get_or T i [])
  rows_written [] f i = record { over = λ t h. elim h [ ]; nonzero = λ t h. elim h [ ]; falling = none }
  rows_written (p ∷ T) f zero = (f p (Memᴰ.head refl)).acceptable.written
  rows_written (p ∷ T) f (suc i) = rows_written T (λ q h. f q (Memᴰ.tail h)) i

  pub row_written : {s : State} → Sound S s → (k : ℕ) → Written F O N (row s.rows k)
  row_written {s} I k = rows_written s.rows I.each (k - 1)

  pub row_at : {s : State} → Sound S s → (k : ℕ) → Within k (length s.rows) → Row S (row s.rows k)
  row_at {s} I k w = I.each (row s.rows k) (Lists.entry_member [] s.rows (k - 1) (omega arith))

  -- the terms of a row but the first
  pub tail_written : {s : State} → Sound S s → (k : ℕ) → Written F O N (drop 1 (row s.rows k))
  tail_written {s} I k = go (row s.rows k) (row_written I k)
    where
      fall : {t : Term} {p : Poly} → Falling O (t ∷ p) → Falling O p
      fall single = none
      fall (more h f) = f

      go : (p : Poly) → Written F O N p → Written F O N (drop 1 p)
      go [] w = w
      go (t ∷ p) w = record { over = λ u h. w.over u (Memᴰ.tail h); nonzero = λ u h. w.nonzero u (Memᴰ.tail h); falling = fall w.falling }

  pub row_wide : {s : State} → Sound S s → (k : ℕ) → Wide (leading (row s.rows k))
  row_wide {s} I k = go (row s.rows k) (row_written I k)
    where
      go : (p : Poly) → Written F O N p → Wide (leading p)
      go [] w = refl
      go (t ∷ p) w = (w.over t (Memᴰ.head refl)).1.wide

  pub prolonged_written : {s : State} → Sound S s → (k v : ℕ) → Within v N → Written F O N (prolonged S s k v)
  prolonged_written {s} I k v w = WrittenLists.written_scaled ground 1 (variable v) (omega arith) L.differ (Monomials.in_variable w) (row s.rows k) (row_written I k)

  pub steps : {s s' : State} {a : Answer} → Sound S s → Steps S s a s' → Sound S s'
  steps I (step_closed c) = I
  steps I (step_wide c f) = I
  steps I (step_stuck c f r) = I
  steps {s} I (step_mark {k = k} {v = v} c f r) = record {
    each = I.each;
    few = I.few;
    once = I.once;
    marked = λ j u p e. ⊎_elim
        (λ x. let y = and_parts (eqb j k) (eqb u v) x in subst₂ (λ j u. ReducesTo S s most_terms (prolonged S s j u) (left [])) (sym (eqb-true j k y.0)) (sym (eqb-true u v y.1)) r)
        (λ x. I.marked j u (record { at_row = p.at_row; at_variable = p.at_variable; not_multiplicative = p.not_multiplicative }) x)
        (or_cases (eqb j k && eqb u v) (s.marks j u) e);
  }
  steps I (step_full c f r m) = I
  steps {s} I (step_row {k = k} {v = v} {t = t} {g = g} c f r m) =
      let a : Acceptable F O N (prolonged S s k v) = record {
        written = prolonged_written I k v c.pair.at_variable;
        fits = f;
        short = subst (λ x. x ≤ most_terms) (sym (Values.length_scaled F 1 (variable v) (row s.rows k))) (row_at I k c.pair.at_row).acceptable.short;
      } in
      let w = reduces_acceptable r a in
      new_row I m w.0 w.1

  pub no_fault : (f : Poly) → first_fault S f ≡ None → Acceptable F O N f
  no_fault = acceptable_from F O N

  pub adds : {s s' : State} {f : Poly} {a : Answer} → Sound S s → Adds S s f a s' → Sound S s'
  adds I (add_faulty e) = I
  adds I (add_stuck e r) = I
  adds I (add_zero e r) = I
  adds I (add_full e r m) = I
  adds {f = f} I (add_row {t = t} {g = g} e r m) = let w = reduces_acceptable r (no_fault f e) in new_row I m w.0 w.1

  pub sound_empty : Sound S empty
  sound_empty = record { each = λ p h. elim h [ ]; few = omega arith; once = λ j k w v e. absurd (omega arith); marked = λ k v p e. absurd (both_ways false refl e) }

  pub sound : {calls : List Call} {s : State} {gs : List Poly} → After S calls s gs → Sound S s
  sound made = sound_empty
  sound (added a h) = adds (sound a) h
  sound (not_added a h) = adds (sound a) h
  sound (stepped a h) = steps (sound a) h
  sound (reduced a h) = sound a
  sound (shown a h) = sound a
  sound (copied a h) = sound a
  sound (judged a h) = sound a

  -- a selection rises from each to every later one
  pub rising_up : {s : State} (I : Sound S s) {ks : List ℕ} → Rising S s ks → Lists.Up (λ j k. Under O (leading (row s.rows j)) (leading (row s.rows k))) ks
  rising_up I rising_none = Lists.up_nil
  rising_up I rising_one = Lists.up_cons (λ b h. elim h [ ]) Lists.up_nil
  rising_up {s} I (rising_more {j = j} {k = k} h r) = go (rising_up I r)
    where
      go : {ks : List ℕ} → Lists.Up (λ j k. Under O (leading (row s.rows j)) (leading (row s.rows k))) (k ∷ ks) →
          Lists.Up (λ j k. Under O (leading (row s.rows j)) (leading (row s.rows k))) (j ∷ k ∷ ks)
      go (Lists.up_cons u p) = Lists.up_cons (λ b m. ⊎_elim (λ e. rw e h) (λ n. W.order.transitive _ _ _ (row_wide I j) (row_wide I k) (row_wide I b) h (u b n)) (Memᴰ.cases_cons m)) (Lists.up_cons u p)

  -- what the laws of the division ask of the leading monomials
  pub distinct : {s : State} → Sound S s → Distinct (leaders s.rows)
  distinct {s} I = record {
    wide = λ k w. rw (led k (inside w)) (row_wide I k);
    once = λ j k w v e. I.once j k (inside w) (inside v) (sym (led j (inside w)) ∙ e ∙ led k (inside v));
  }
    where
      inside : {k : ℕ} → Within k (length (leaders s.rows)) → Within k (length s.rows)
      inside w = rw (length-map s.rows leading) at w

      led : (k : ℕ) → Within k (length s.rows) → member (leaders s.rows) k ≡ leading (row s.rows k)
      led k w = get_or-map leading s.rows (k - 1) [] [] (omega arith)

pub soundness_kept : SoundnessKept
soundness_kept S W calls s gs a = sound S W a
