-- Text that is written piece by piece.
use Rattle.std.proofs.Common.{◌≡◌, ℕ, suc, ◌+◌, ◌-◌, ◌<◌, ◌≤◌, Bool, true, false, cond, eqb, decimal, List, [], ◌∷◌, ◌++◌, length, get_or, drop, vec_items, codes, sym, refl, ap, ◌∙◌, append_assoc, add-one, arith}
use Rattle.std.proofs.lemmas.Bool.{eq-eqb, ne_eqb}
use Rattle.std.proofs.lemmas.List.{at_drop_more}
use Rattle.std.specs.Fmt.{HasWritten}
use Rattle.std.specs.declared.fmt.Formatter.{Formatter}
use Rattle.polynomial.specs.declared.term.Term.{Term}
use Rattle.polynomial.specs.Polynomial.{Poly}
use Rattle.monomial.specs.Division.{Split}
use Rattle.stored.specs.declared.row.Row.{Row}
use Rattle.stored.specs.Rows.{polys}
use Rattle.stored.proofs.Writing.{HasLeft, no_more, one_more, all_written}
use Rattle.stored.specs.Text.{row_text, rows_text, power_text, powers_text, term_text, behind_text, poly_text, variables_text}

powers_from : (m : List ℕ) (i : ℕ) (mark : List ℕ) → i < length m →
    powers_text (suc i) mark (drop i m)
    ≡ cond (eqb (get_or m i 0) 0) (powers_text (suc (i + 1)) mark (drop (i + 1) m)) (mark ++ (power_text (i + 1) (get_or m i 0) ++ powers_text (suc (i + 1)) (codes "*") (drop (i + 1) m)))
powers_from m i mark h =
    at_drop_more (powers_text (suc i) mark) m i 0 h
    ∙ ap (λ k. cond (eqb (get_or m i 0) 0) (powers_text (suc k) mark (drop (i + 1) m)) (mark ++ (power_text k (get_or m i 0) ++ powers_text (suc k) (codes "*") (drop (i + 1) m)))) (sym (add-one i))

-- the powers from place i on, where the exponent there is 0, and where it is not
module _ {W : Type 0} {took : W → List ℕ → W → Type 0} {f g : Formatter W} {whole : List ℕ} (m : List ℕ) (i : ℕ) (mark : List ℕ) where
  pub power_skipped : i < length m → get_or m i 0 ≤ 0 → HasLeft took f whole (powers_text (suc i) mark (drop i m)) g → HasLeft took f whole (powers_text (suc (i + 1)) mark (drop (i + 1) m)) g
  power_skipped h z left = let e : eqb (get_or m i 0) 0 ≡ true = eq-eqb _ _ (omega arith) in no_more (rw (powers_from m i mark h, e)) left

  pub power_written : {g' : Formatter W} → i < length m → 0 < get_or m i 0 → HasLeft took f whole (powers_text (suc i) mark (drop i m)) g → HasWritten took g (mark ++ power_text (i + 1) (get_or m i 0)) g' →
      HasLeft took f whole (powers_text (suc (i + 1)) (codes "*") (drop (i + 1) m)) g'
  power_written h p left w =
      let e : eqb (get_or m i 0) 0 ≡ false = ne_eqb _ _ (λ q. absurd (omega arith)) in
      one_more (mark ++ power_text (i + 1) (get_or m i 0)) (rw (powers_from m i mark h, e) (sym (append_assoc mark (power_text (i + 1) (get_or m i 0)) (powers_text (suc (i + 1)) (codes "*") (drop (i + 1) m))))) left w

-- the terms from place i on
pub behind_from : (f : Poly) (i : ℕ) (d : Term) → i < length f → behind_text (drop i f) ≡ (codes " + " ++ term_text (get_or f i d)) ++ behind_text (drop (i + 1) f)
behind_from f i d h = at_drop_more behind_text f i d h ∙ sym (append_assoc (codes " + ") (term_text (get_or f i d)) (behind_text (drop (i + 1) f)))

pub poly_pieces : (f : Poly) (d : Term) → 0 < length f → poly_text f ≡ term_text (get_or f 0 d) ++ behind_text (drop 1 f)
poly_pieces [] d h = absurd (omega arith)
poly_pieces (t ∷ f) d h = refl

-- the variables from number k on, where that one passes, where it does not, and where it is past the last
module _ {W : Type 0} {took : W → List ℕ → W → Type 0} {f g : Formatter W} {whole : List ℕ} (test : ℕ → Bool) (n k : ℕ) (mark : List ℕ) where
  pub variable_skipped : k ≤ n → false ≡ test k → HasLeft took f whole (variables_text test k mark (suc n - k)) g → HasLeft took f whole (variables_text test (k + 1) mark (suc n - (k + 1))) g
  variable_skipped h p left =
      let e : suc n - k ≡ suc (suc n - (k + 1)) = omega arith in no_more (rw (e, ← p, add-one k)) left

  pub variable_written : {g' : Formatter W} → k ≤ n → true ≡ test k → HasLeft took f whole (variables_text test k mark (suc n - k)) g → HasWritten took g (mark ++ (codes "x" ++ decimal k)) g' →
      HasLeft took f whole (variables_text test (k + 1) (codes ", ") (suc n - (k + 1))) g'
  variable_written h p left w =
      let e : suc n - k ≡ suc (suc n - (k + 1)) = omega arith in one_more (mark ++ (codes "x" ++ decimal k)) (rw (e, ← p, add-one k) (simp append_assoc)) left w

  pub variables_written : n < k → HasLeft took f whole (variables_text test k mark (suc n - k)) g → HasWritten took f whole g
  variables_written h left = let e : suc n - k ≡ 0 = omega arith in all_written (ap (variables_text test k mark) e) left

-- the rows from place i on
pub rows_from : (D : Split) (U : List (List ℕ)) (n : ℕ) (rs : List Row) (i : ℕ) (r : Row) → i < length rs → r ≡ get_or rs i r →
    rows_text D U n (suc i) (polys (drop i rs)) ≡ row_text D U n (i + 1) (vec_items r.terms) ++ rows_text D U n (suc (i + 1)) (polys (drop (i + 1) rs))
rows_from D U n rs i r h e =
    at_drop_more (λ qs. rows_text D U n (suc i) (polys qs)) rs i r h
    ∙ ap (λ k. row_text D U n k (vec_items (get_or rs i r).terms) ++ rows_text D U n (suc k) (polys (drop (i + 1) rs))) (sym (add-one i))
    ∙ ap (λ q. row_text D U n (i + 1) (vec_items q.terms) ++ rows_text D U n (suc (i + 1)) (polys (drop (i + 1) rs))) (sym e)
