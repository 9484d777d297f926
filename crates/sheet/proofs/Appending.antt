-- A polynomial divided by its leading coefficient, as one row more.
use Rattle.std.proofs.Common.{◌≡◌, ℕ, suc, ◌<◌, ◌≤◌, Ok, Err, Result, MatchResult, true, false, ltb, List, [], ◌∷◌, ◌++◌, map, length, get_or, unwrap_or, sym, refl, ap, ◌∙◌, subst, arith}
use mathlib.Core.List.Memᴰ
use mathlib.Core.List.{map-append}
use lib.ListN.{length-map}
use Rattle.std.specs.Result.{is_err}
use Rattle.std.proofs.lemmas.Bool.{lt-ltb, cond-true, false≢true}
use Rattle.field.specs.Field.{FieldMeaning, FieldLaws, checked, code, nonzero_code}
use Rattle.monomial.specs.Division.{Split}
use Rattle.polynomial.specs.Polynomial.{Poly, Over, term, leading_coefficient}
use Rattle.polynomial.specs.Check.{Fits, most_terms}
use Rattle.reduction.specs.declared.refusal.Reason.{Reason}
use Rattle.reduction.specs.declared.refusal.Reason.TheVariants.{Wide, Long}
use Rattle.reduction.specs.declared.table.Row.{Row}
use Rattle.reduction.specs.Subtraction.{Unscaled}
use Rattle.reduction.specs.Table.{terms_of, table_of}
use Rattle.sheet.specs.Rows.{lead_of, flags_of, Asked, Refreshed, Appended}

-- the inverse that is asked for
pub inverse_is : {F : FieldMeaning} → FieldLaws F → (g : Poly) (n x : ℕ) → 0 < length g → Over F n g → 0 < leading_coefficient g →
    x ≡ unwrap_or (checked (nonzero_code F.q (get_or g 0 (term 0 [])).coefficient) (F.inv (get_or g 0 (term 0 [])).coefficient)) 0 → (x ≡ F.inv (leading_coefficient g)) × (x < F.q)
inverse_is L [] n x h o p e = absurd (omega (arith, h))
inverse_is {F} L (t ∷ g) n x h o p e =
    let a = t.coefficient in
    let b : a < F.q = (o t (Memᴰ.head refl)).0 in
    let y : x ≡ F.inv a = e ∙ ap (λ c. unwrap_or (checked c (F.inv a)) 0) (cond-true (ltb 0 a) (code F.q a) false (lt-ltb 0 a p) ∙ lt-ltb a F.q b) in
    (y, subst (λ z. z < F.q) (sym y) (L.inv_below a p b))

pub appended : {D : Split} {U : List (List ℕ)} {f : Poly} {m : List ℕ} (old pushed new : List Row) (r : Row) → pushed ≡ old ++ (r ∷ []) → terms_of r ≡ f → lead_of r ≡ m → U ≡ map lead_of pushed → Refreshed D U pushed new → Appended D f m old new
appended {D} old pushed new r e t l u R = record {
  terms = R.terms ∙ ap table_of e ∙ map-append terms_of old (r ∷ []) ∙ ap (λ x. table_of old ++ (x ∷ [])) t;
  leads = R.leads ∙ ap (map lead_of) e ∙ map-append lead_of old (r ∷ []) ∙ ap (λ x. map lead_of old ++ (x ∷ [])) l;
  asked = λ i h. subst (λ V. Asked D V (suc i) (get_or (map flags_of new) i [])) (u ∙ sym R.leads) (R.asked i (subst (λ n. i < n) (sym (length-map new lead_of) ∙ ap length R.leads ∙ length-map pushed lead_of) h));
}

-- what could not be multiplied has an exponent that is too large, since its terms are few; and what could be is the multiple
module _ (A : Type 0) (g m : Poly) where
  pub too_large : (r : Result (Unit {0}) Reason) → is_err r ≡ true → length g ≤ most_terms → MatchResult r (λ _. A) (Unscaled g m) → Fits m → ⊥
  too_large (Ok u) e l s f = absurd (false≢true e)
  too_large (Err Long) e l s f = omega (arith, s, l)
  too_large (Err Wide) e l s f = s.1 f

  pub multiplied : (r : Result (Unit {0}) Reason) → is_err r ≡ false → MatchResult r (λ _. A) (Unscaled g m) → A
  multiplied (Ok u) e s = s
  multiplied (Err d) e s = absurd (false≢true (sym e))
