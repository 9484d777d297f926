-- One row more leaves a sound table.
use Rattle.std.proofs.Common.{◌≡◌, ℕ, suc, ◌+◌, ◌-◌, ◌<◌, ◌≤◌, Bool, false, ◌⊎◌, inl, inr, List, [], ◌∷◌, ◌++◌, map, length, get_or, Some, Option, unwrap_or, sym, refl, ap, ◌∙◌, subst, ap₂, ⊎_elim, arith, length-append}
use mathlib.Core.List.{map-append}
use lib.ListN.{length-map}
use Rattle.std.proofs.lemmas.List.{get_or_append_left, get_or_push}
use Rattle.std.proofs.lemmas.Bool.{cases_lt, cases_eq}
use Rattle.monomial.specs.Monomial.{Wide}
use Rattle.monomial.specs.Division.{DivisionLaws, Within, Distinct, member}
use Rattle.polynomial.specs.Polynomial.{Poly, leading}
use Rattle.involutive.specs.Reduction.{leaders}
use Rattle.involutive.specs.Sheet.{Setting}
use Rattle.involutive.specs.Sound.{Row as Good}
use Rattle.reduction.specs.declared.table.Row.{Row}
use Rattle.reduction.specs.Table.{terms_of, table_of, SoundRow, SoundTable}
use Rattle.reduction.proofs.Lines.{leading_wide}
use Rattle.sheet.specs.Rows.{lead_of, flags_of, Appended}
use Rattle.reduction.proofs.Mapping.{map_at, element}

-- the leading monomials that stand beside the rows are those of the rows
pub leads_are : (rows : List Row) → ((i : ℕ) (r : Row) → i < length rows → r ≡ get_or rows i r → lead_of r ≡ leading (terms_of r)) → map lead_of rows ≡ leaders (table_of rows)
leads_are [] f = refl
leads_are (r ∷ rows) f = ap₂ (λ m l. m ∷ l) (f 0 r (omega arith) refl) (leads_are rows (λ i x h e. f (suc i) x (omega (arith, h)) e))

told : {o : Option Bool} {b c : Bool} → o ≡ Some b → c ≡ unwrap_or o false → o ≡ Some c
told p q = p ∙ ap Some (sym (q ∙ ap (λ o. unwrap_or o false) p))

-- one monomial more, which is none of the others
distinct_push : (U : List (List ℕ)) (m : List ℕ) → Wide m → Distinct U → ((k : ℕ) → Within k (length U) → member U k ≡ m → ⊥) → Distinct (U ++ (m ∷ []))
distinct_push U m w d n = record {
  wide = λ k h. ⊎_elim (λ x. subst Wide (sym x.1) (d.wide k x.0)) (λ x. subst Wide (sym x.1) w) (place k h);
  once = λ j k h l e. go j k e (place j h) (place k l);
}
  where
    place : (k : ℕ) → Within k (length (U ++ (m ∷ []))) → (Within k (length U) × (member (U ++ (m ∷ [])) k ≡ member U k)) ⊎ ((k ≡ suc (length U)) × (member (U ++ (m ∷ [])) k ≡ m))
    place k h = ⊎_elim (λ e. inr (e, get_or_push U m [] (k - 1) (omega arith)))
        (λ e. let v : Within k (length U) = (h.0, omega (arith, length-append U (m ∷ []))) in inl (v, get_or_append_left U (m ∷ []) [] (k - 1) (omega arith)))
        (cases_eq k (suc (length U)))

    go : (j k : ℕ) → member (U ++ (m ∷ [])) j ≡ member (U ++ (m ∷ [])) k →
        (Within j (length U) × (member (U ++ (m ∷ [])) j ≡ member U j)) ⊎ ((j ≡ suc (length U)) × (member (U ++ (m ∷ [])) j ≡ m)) →
        (Within k (length U) × (member (U ++ (m ∷ [])) k ≡ member U k)) ⊎ ((k ≡ suc (length U)) × (member (U ++ (m ∷ [])) k ≡ m)) → j ≡ k
    go j k e (inl x) (inl y) = d.once j k x.0 y.0 (sym x.1 ∙ e ∙ y.1)
    go j k e (inl x) (inr y) = absurd (n j x.0 (sym x.1 ∙ e ∙ y.1))
    go j k e (inr x) (inl y) = absurd (n k y.0 (sym y.1 ∙ sym e ∙ x.1))
    go j k e (inr x) (inr y) = x.0 ∙ sym y.0

module _ (S : Setting) (M : DivisionLaws S.division) (old new : List Row) (f : Poly) (I : SoundTable S old) (A : Appended S.division f (leading f) old new) (G : Good S f) (new_one : (k : ℕ) → Within k (length (leaders (table_of old))) → member (leaders (table_of old)) k ≡ leading f → ⊥) where
  long : length new ≡ length old + 1
  long = sym (length-map new terms_of) ∙ ap length A.terms ∙ length-append (table_of old) (f ∷ []) ∙ ap (λ n. n + 1) (length-map old terms_of)

  -- a row of the new table has the terms and the leading monomial of an old one, or those of f
  record From (r : Row) : Type 0 where
    good : Good S (terms_of r)
    lead : lead_of r ≡ leading (terms_of r)

  from_old : (i : ℕ) (r : Row) → i < length new → r ≡ get_or new i r → i < length old → From r
  from_old i r h e k =
      let x = element old i k in
      let t : terms_of r ≡ terms_of x.0 = sym (map_at terms_of new i r [] h e) ∙ ap (λ l. get_or l i []) A.terms ∙ get_or_append_left (table_of old) (f ∷ []) [] i (subst (λ n. i < n) (sym (length-map old terms_of)) k) ∙ map_at terms_of old i x.0 [] k x.1 in
      let l : lead_of r ≡ lead_of x.0 = sym (map_at lead_of new i r [] h e) ∙ ap (λ l. get_or l i []) A.leads ∙ get_or_append_left (map lead_of old) (leading f ∷ []) [] i (subst (λ n. i < n) (sym (length-map old lead_of)) k) ∙ map_at lead_of old i x.0 [] k x.1 in
      let s = I.each i x.0 k x.1 in
      record { good = subst (Good S) (sym t) s.good; lead = l ∙ s.lead ∙ ap leading (sym t) }

  from_new : (i : ℕ) (r : Row) → i < length new → r ≡ get_or new i r → i ≡ length old → From r
  from_new i r h e k =
      let t : terms_of r ≡ f = sym (map_at terms_of new i r [] h e) ∙ ap (λ l. get_or l i []) A.terms ∙ get_or_push (table_of old) f [] i (length-map old terms_of ∙ sym k) in
      let l : lead_of r ≡ leading f = sym (map_at lead_of new i r [] h e) ∙ ap (λ l. get_or l i []) A.leads ∙ get_or_push (map lead_of old) (leading f) [] i (length-map old lead_of ∙ sym k) in
      record { good = subst (Good S) (sym t) G; lead = l ∙ ap leading (sym t) }

  from : (i : ℕ) (r : Row) → i < length new → r ≡ get_or new i r → From r
  from i r h e = ⊎_elim (from_old i r h e) (λ n. from_new i r h e (let l = long in omega (arith, n, h, l))) (cases_lt i (length old))

  -- the new leading monomial is none of the old ones
  distinct : Distinct (leaders (table_of new))
  distinct = subst Distinct (sym (ap leaders A.terms ∙ map-append leading (table_of old) (f ∷ []))) (distinct_push (leaders (table_of old)) (leading f) (leading_wide f G) I.distinct new_one)

  each : (i : ℕ) (r : Row) → i < length new → r ≡ get_or new i r → SoundRow S (table_of new) i r
  each i r h e =
      let F = from i r h e in
      let u : map lead_of new ≡ leaders (table_of new) = leads_are new (λ j x k d. (from j x k d).lead) in
      record {
        good = F.good;
        lead = F.lead;
        flags = λ v w.
            let b = M.answers (leaders (table_of new)) (suc i) v (omega arith, subst (λ n. suc i ≤ n) (sym (ap length (sym u) ∙ length-map new lead_of)) (omega (arith, h))) w in
            let z : suc (v - 1) ≡ v = omega (arith, w) in
            let a : get_or (flags_of r) (v - 1) false ≡ unwrap_or (S.division (leaders (table_of new)) (suc i) v) false =
            ap (λ l. get_or l (v - 1) false) (sym (map_at flags_of new i r [] h e)) ∙ A.asked i h (v - 1) (omega (arith, w)) ∙ ap₂ (λ U x. unwrap_or (S.division U (suc i) x) false) u z in
            told b.1 a;
      }

  pub stands : SoundTable S new
  stands = record { each = each; distinct = distinct }
