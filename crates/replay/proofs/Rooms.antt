-- The buffers that a replay lends have room for every answer, so a line does not depend on what they held.
use Rattle.std.proofs.Common.{◌≡◌, ℕ, zero, suc, ◌+◌, ◌*◌, ◌≤◌, List, [], ◌∷◌, length, take, drop, sym, refl, ap, ◌∙◌, subst, ap₂, ⊎_elim, arith, length-append, length-take, length-drop}
use mathlib.Core.List.Memᴰ
use mathlib.Core.List.{Memᴰ}
use lib.Seq.{take-append_seam}
use Rattle.std.proofs.lemmas.Bool.{cases_eq}
use Rattle.monomial.specs.Order.{Under}
use Rattle.monomial.specs.Division.{Within}
use Rattle.polynomial.specs.declared.term.Term.{Term}
use Rattle.polynomial.specs.Polynomial.{Poly, leading, exponents}
use Rattle.polynomial.specs.Reading.{Wides}
use Rattle.polynomial.specs.Check.{Fits, most_terms}
use Rattle.polynomial.specs.Bytes.{poly_bytes, copy_bytes}
use Rattle.involutive.specs.Reduction.{row}
use Rattle.involutive.specs.Sheet.{Setting, Lawful, State, most_rows}
use Rattle.involutive.specs.Answers.{Answer, Remains, Shows, FairCopies, Selection, Copies, copies, front, remainder_open, remainder_faulty, remainder_stuck, remainder_short, remainder_written, row_absent, row_short, row_written, copy_open, copy_denied, copy_short, copy_written}
use Rattle.involutive.specs.Sound.{Sound}
use Rattle.involutive.proofs.Lists.{Up, up_nil, up_cons}
use Rattle.involutive.proofs.Copying.{CopyOf, Beside, no_more, one_more, beside}
use Rattle.involutive.proofs.WrittenLists.{under_asym}
use Rattle.involutive.proofs.OneAnswer.{sound_one}
use Rattle.involutive.proofs.Soundness
use Rattle.involutive.proofs.Sheets
use Rattle.lines.specs.Line.{line, bytes_field}
use Rattle.replay.specs.Words.{shown, copied, number_of, value_of, terms_written, bytes_written}
use Rattle.replay.specs.Replay.{most_bytes}

-- ---- different numbers from 1 to n are n at most

abbrev Apart : List ℕ → Type 0
Apart = Up (λ a b. a ≡ b → ⊥)

record Without (n : ℕ) (l : List ℕ) : Type 0 where
  rest : List ℕ
  long : length l ≤ 1 + length rest
  apart : Apart rest
  inside : (x : ℕ) → Memᴰ x rest → Memᴰ x l
  gone : (x : ℕ) → Memᴰ x rest → x ≡ n → ⊥

without : (n : ℕ) {l : List ℕ} → Apart l → Without n l
without n up_nil = record { rest = []; long = omega arith; apart = up_nil; inside = λ x m. m; gone = λ x m. elim m [ ] }
without n (up_cons {a = a} {l = l} u p) = ⊎_elim
    (λ e. record { rest = l; long = omega arith; apart = p; inside = λ x m. Memᴰ.tail m; gone = λ x m d. u x m (e ∙ sym d) })
    (λ ne. let w = without n p in record {
      rest = a ∷ w.rest;
      long = let h = w.long in omega (arith, h);
      apart = up_cons (λ b m. u b (w.inside b m)) w.apart;
      inside = λ x m. ⊎_elim (λ e. Memᴰ.head e) (λ k. Memᴰ.tail (w.inside x k)) (Memᴰ.cases_cons m);
      gone = λ x m d. ⊎_elim (λ e. ne (sym e ∙ d)) (λ k. w.gone x k d) (Memᴰ.cases_cons m);
    })
    (cases_eq a n)

few_apart : (n : ℕ) (l : List ℕ) → Apart l → ((x : ℕ) → Memᴰ x l → Within x n) → length l ≤ n
few_apart n [] p f = omega arith
few_apart zero (a ∷ l) p f = let h = f a (Memᴰ.head refl) in absurd (omega (arith, h))
few_apart (suc n) (a ∷ l) p f =
    let w = without (suc n) p in
    let h = few_apart n w.rest w.apart (λ x m. let b = f x (w.inside x m) in let ne = w.gone x m in (b.0, ⊎_elim (λ e. absurd (ne e)) (λ d. omega (arith, b, d)) (cases_eq x (suc n)))) in
    let g = w.long in
    omega (arith, h, g)

-- ---- bytes of terms

poly_long : (f : Poly) → Wides f → length (poly_bytes f) ≡ length f * 9
poly_long [] w = refl
poly_long (t ∷ f) w =
    let e = length-append (exponents t) (poly_bytes f) in
    let l = w t (Memᴰ.head refl) in
    let r = poly_long f (λ u m. w u (Memᴰ.tail m)) in
    omega (arith, e, l, r)

module _ (S : Setting) (W : Lawful S) {s : State} (I : Sound S s) where
  irreflexive : (k : ℕ) → Under S.order (leading (row s.rows k)) (leading (row s.rows k)) → ⊥
  irreflexive k h = let w = Soundness.row_wide S W I k in under_asym W.order _ _ w w h h

  risen_apart : {ks : List ℕ} → Up (λ j k. Under S.order (leading (row s.rows j)) (leading (row s.rows k))) ks → Apart ks
  risen_apart up_nil = up_nil
  risen_apart (up_cons {a = a} u p) = up_cons (λ b m e. irreflexive b (subst (λ x. Under S.order (leading (row s.rows x)) (leading (row s.rows b))) e (u b m))) (risen_apart p)

  selected_few : {ks : List ℕ} → Selection S s ks → length ks ≤ most_rows
  selected_few {ks} z =
      let h = few_apart (length s.rows) ks (risen_apart (Soundness.rising_up S W I z.rising)) (λ k m. ((z.minimal k).0 m).within) in
      let f = I.few in
      omega (arith, h, f)

  fits_rest : (f : Poly) → Fits f → Fits (drop 1 f)
  fits_rest [] h = h
  fits_rest (t ∷ f) h = λ u m. h u (Memᴰ.tail m)

  copy_long : {k : ℕ} {f : Poly} → Within k (length s.rows) → CopyOf S s k f → length (poly_bytes f) ≤ 360
  copy_long {k} {f} w c =
      let r = (Soundness.row_at S W I k w).acceptable in
      let l = length-drop 1 (row s.rows k) in
      let n = r.short in
      let g = (Soundness.reduces_small S W c.reduced (fits_rest (row s.rows k) r.fits) (omega (arith, l, n)) c.rest refl).1 in
      let e = ap length c.is ∙ length-append (take 1 (row s.rows k)) c.rest in
      let o = length-take 1 (row s.rows k) in
      let b = poly_long f (λ t m. ((Sheets.fair S W s I k w c).good.over t m).1.wide) in
      omega (arith, g, e, o, b)

  copies_long : {ks : List ℕ} {fs : List Poly} → ((k : ℕ) → Memᴰ k ks → Within k (length s.rows)) → Beside S s ks fs → length (copy_bytes fs) ≤ length ks * 361
  copies_long f no_more = omega arith
  copies_long w (one_more {k = k} {f = f} {fs = fs} c b) =
      let h = copies_long (λ j m. w j (Memᴰ.tail m)) b in
      let l = copy_long (w k (Memᴰ.head refl)) c in
      let e = length-append (poly_bytes f) (2 ∷ copy_bytes fs) in
      omega (arith, h, l, e)

  -- no fair copy is longer than the lent bytes, no remainder and no row than the lent terms
  copy_fits : {ks : List ℕ} {fs : List Poly} → Selection S s ks → Copies S s ks (copies fs) → length (copy_bytes fs) ≤ most_bytes
  copy_fits {ks} z c =
      let h = copies_long (λ k m. ((z.minimal k).0 m).within) (beside S s c) in
      let l = selected_few z in
      omega (arith, h, l)

  row_fits : (k : ℕ) → Within k (length s.rows) → length (row s.rows k) ≤ most_terms
  row_fits k w = (Soundness.row_at S W I k w).acceptable.short

  -- ---- the same call with other terms or bytes lent: the same answer, and the same in front

  record Other (A : Type 0) (Q : List A → Type 0) (seen : List A → List ℕ) (old : List A) : Type 0 where
    now : List A
    holds : Q now
    same : seen old ≡ seen now

  front_same : {A : Type 0} (g o out : List A) → take (length g) (front g o) ≡ take (length g) (front g out)
  front_same g o out = take-append_seam g (drop (length g) o) ∙ sym (take-append_seam g (drop (length g) out))

  remains_other : {f o o' : Poly} {a : Answer} (out : Poly) → most_terms ≤ length o → most_terms ≤ length out → Remains S s f o a o' → Other Term (Remains S s f out a) (terms_written a) o'
  remains_other out l n (remainder_open c) = record { now = out; holds = remainder_open c; same = refl }
  remains_other out l n (remainder_faulty c q) = record { now = out; holds = remainder_faulty c q; same = refl }
  remains_other out l n (remainder_stuck c q r) = record { now = out; holds = remainder_stuck c q r; same = refl }
  remains_other {f} out l n (remainder_short c q r k) = let h = (Soundness.reduces_acceptable S W r (Soundness.no_fault S W f q)).0.short in absurd (omega (arith, l, k, h))
  remains_other {f} {o = o} out l n (remainder_written {g = g} c q r k) =
      let h = (Soundness.reduces_acceptable S W r (Soundness.no_fault S W f q)).0.short in
      record { now = front g out; holds = remainder_written c q r (omega (arith, n, h)); same = ap poly_bytes (front_same g o out) }

  shows_other : {k : ℕ} {o o' : Poly} {a : Answer} (out : Poly) → most_terms ≤ length o → most_terms ≤ length out → Shows S s k o a o' → Other Term (Shows S s k out a) (terms_written a) o'
  shows_other out l n (row_absent w) = record { now = out; holds = row_absent w; same = refl }
  shows_other {k} out l n (row_short w p) = let h = row_fits k w in absurd (omega (arith, l, p, h))
  shows_other {k} {o = o} out l n (row_written w p) = let h = row_fits k w in record { now = front (row s.rows k) out; holds = row_written w (omega (arith, n, h)); same = ap poly_bytes (front_same (row s.rows k) o out) }

  copies_other : {o o' : List ℕ} {a : Answer} (out : List ℕ) → most_bytes ≤ length o → most_bytes ≤ length out → FairCopies S s o a o' → Other ℕ (FairCopies S s out a) (bytes_written a) o'
  copies_other out l n (copy_open c) = record { now = out; holds = copy_open c; same = refl }
  copies_other out l n (copy_denied c z m) = record { now = out; holds = copy_denied c z m; same = refl }
  copies_other out l n (copy_short c z m p) = let h = copy_fits z m in absurd (omega (arith, l, p, h))
  copies_other {o = o} out l n (copy_written {fs = fs} c z m p) = let h = copy_fits z m in record { now = front (copy_bytes fs) out; holds = copy_written c z m (omega (arith, n, h)); same = front_same (copy_bytes fs) o out }

  -- ---- so there is one line

  pub remainder_line : {f o o' out out' : Poly} {a b : Answer} → most_terms ≤ length out → most_terms ≤ length o → Remains S s f out a out' → Remains S s f o b o' → (at : ℕ) → shown at 4 a out' ≡ shown at 4 b o'
  remainder_line {out = out} {out' = out'} {a = a} {b = b} n l p q at =
      let w = remains_other out l n q in
      let e = (sound_one S W s I).remains _ out a b out' w.now p w.holds in
      ap₂ (shown at 4) e.0 e.1 ∙ sym (ap (λ x. line at 4 (number_of b) (value_of b) (bytes_field x)) w.same)

  pub row_line : {k : ℕ} {o o' out out' : Poly} {a b : Answer} → most_terms ≤ length out → most_terms ≤ length o → Shows S s k out a out' → Shows S s k o b o' → (at : ℕ) → shown at 5 a out' ≡ shown at 5 b o'
  row_line {out = out} {out' = out'} {a = a} {b = b} n l p q at =
      let w = shows_other out l n q in
      let e = (sound_one S W s I).shows _ out a b out' w.now p w.holds in
      ap₂ (shown at 5) e.0 e.1 ∙ sym (ap (λ x. line at 5 (number_of b) (value_of b) (bytes_field x)) w.same)

  pub copy_line : {o o' out out' : List ℕ} {a b : Answer} → most_bytes ≤ length out → most_bytes ≤ length o → FairCopies S s out a out' → FairCopies S s o b o' → (at : ℕ) → copied at a out' ≡ copied at b o'
  copy_line {out = out} {out' = out'} {a = a} {b = b} n l p q at =
      let w = copies_other out l n q in
      let e = (sound_one S W s I).fair_copies out a b out' w.now p w.holds in
      ap₂ (copied at) e.0 e.1 ∙ sym (ap (λ x. line at 6 (number_of b) (value_of b) (bytes_field x)) w.same)
