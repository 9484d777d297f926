-- The rows of a stored table, one behind the other.
use Rattle.std.proofs.Common.{◌≡◌, ℕ, suc, ◌+◌, ◌-◌, ◌^◌, ◌<◌, ◌≤◌, Bool, true, false, cond, ◌||◌, eqb, ltb, ◌⊎◌, List, [], ◌∷◌, ◌++◌, map, length, Some, None, Ok, Err, vec_items, Option, sym, refl, ap, ◌∙◌, subst, inl, inr, arith, length-append}
use Rattle.std.specs.List.{list_any}
use Rattle.std.proofs.lemmas.Bool.{cases_lt}
use Rattle.field.specs.Field.{FieldMeaning}
use Rattle.monomial.specs.Monomial.{same}
use Rattle.monomial.specs.Order.{Compare}
use Rattle.polynomial.specs.declared.term.Term.{Term}
use Rattle.polynomial.specs.declared.refusal.Refusal.{Refusal}
use Rattle.polynomial.specs.declared.refusal.Refusal.TheVariants.{TooManyTerms, Coefficient, Exponent, NotFalling}
use Rattle.polynomial.specs.Polynomial.{Poly, exponents, leading}
use Rattle.polynomial.specs.Bytes.{poly_bytes}
use Rattle.polynomial.specs.Check.{fault, faults, term_fault, or_else, is_code, has_exponents, below_last, place}
use Rattle.polynomial.specs.Reading.{IsRun}
use Rattle.polynomial.proofs.Checking.{fault_long, fault_short}
use Rattle.stored.specs.declared.fault.Reason.{Reason}
use Rattle.stored.specs.declared.fault.Reason.TheVariants.{TooManyRows, Refused, Zero, NotMonic, Repeated}
use Rattle.stored.specs.declared.row.Row.{Row}
use Rattle.stored.specs.declared.fault.Fault.{Fault}
use Rattle.stored.specs.declared.fault.Fault.TheVariants.{Bad, Memory}
use Rattle.stored.specs.declared.rest.Rest.{Rest}
use Rattle.stored.specs.Record.{ReadsRecord, file_length}
use Rattle.stored.specs.Stored.{bad, Reads, row, no_row, no_record, among, behind, leading_fault, after_checks, row_fault}
use Rattle.stored.specs.Rows.{polys, ChecksRow, Fails, IsFound}

pub among_any : (m : List ℕ) (rs : List Row) → among m (map leading (polys rs)) ≡ list_any (λ r. same (leading (vec_items r.terms)) m) rs
among_any m [] = refl
among_any m (r ∷ rs) = ap (λ b. same (leading (vec_items r.terms)) m || b) (among_any m rs)

-- a refused term is one of the first 40
module _ (F : FieldMeaning) (O : Compare) (n : ℕ) where
  term_place : (before : Option Term) (k : ℕ) (t : Term) (r : Refusal) → term_fault F O n before k t ≡ Some r → place r ≡ k
  term_place before k t r e = go (is_code F t.coefficient) (has_exponents n t) (below_last O before t) e
    where
      go : (a b c : Bool) → cond a (cond b (cond c None (Some (NotFalling k))) (Some (Exponent k))) (Some (Coefficient k)) ≡ Some r → place r ≡ k
      go true true true h = cc
      go true true false h = cc
      go true false c h = cc
      go false b c h = cc

  faults_place : (before : Option Term) (k : ℕ) (f : Poly) (r : Refusal) → faults F O n before k f ≡ Some r → place r < k + length f
  faults_place before k [] r e = let z : ◌≡◌ {A = ℕ} 0 1 = cc in absurd (omega arith)
  faults_place before k (t ∷ f) r e = go (λ h. faults_place (Some t) (suc k) f r h) (term_fault F O n before k t) refl e
    where
      go : (faults F O n (Some t) (suc k) f ≡ Some r → place r < suc k + length f) → (o : Option Refusal) → term_fault F O n before k t ≡ o → or_else F O n o (faults F O n (Some t) (suc k) f) ≡ Some r → place r < k + suc (length f)
      go later None p h = omega (arith, later h)
      go later (Some q) p h = omega (arith, term_place before k t r (p ∙ h))

  pub fault_place : (f : Poly) (r : Refusal) → fault F O n f ≡ Some r → place r ≤ 40
  fault_place f r e = go (cases_lt 40 (length f))
    where
      go : (40 < length f) ⊎ (length f ≤ 40) → place r ≤ 40
      go (inl h) = let z : TooManyTerms ≡ r = cc (fault_long F O n f h) in omega (arith, ap place z)
      go (inr h) = omega (arith, faults_place None 1 f r (sym (fault_short F O n f h) ∙ e))

  -- so its fault stands at most 39 terms behind the record's start
  pub behind_small : (U : List (List ℕ)) (f : Poly) (why : Reason) → row_fault F O n U f ≡ Some why → behind why ≤ 351
  behind_small U f why e = go (ltb (length U) 32) (fault F O n f) refl e
    where
      lead : (g : Poly) → leading_fault U g ≡ Some why → behind why ≤ 351
      lead [] h = let z : why ≡ Zero = cc in subst (λ w. behind w ≤ 351) (sym z) (omega arith)
      lead (t ∷ g) h = by (eqb t.coefficient 1) (among (exponents t) U) h
        where
          by : (a b : Bool) → cond a (cond b (Some Repeated) None) (Some NotMonic) ≡ Some why → behind why ≤ 351
          by true true k = let z : why ≡ Repeated = cc in subst (λ w. behind w ≤ 351) (sym z) (omega arith)
          by true false k = let z : ◌≡◌ {A = ℕ} 0 1 = cc in absurd (omega arith)
          by false b k = let z : why ≡ NotMonic = cc in subst (λ w. behind w ≤ 351) (sym z) (omega arith)

      go : (b : Bool) (o : Option Refusal) → fault F O n f ≡ o → cond b (after_checks o (leading_fault U f)) (Some TooManyRows) ≡ Some why → behind why ≤ 351
      go false o p h = let z : why ≡ TooManyRows = cc in subst (λ w. behind w ≤ 351) (sym z) (omega arith)
      go true None p h = lead f h
      go true (Some r) p h = let z : why ≡ Refused r = cc in subst (λ w. behind w ≤ 351) (sym z) (omega (arith, fault_place f r p))

-- a record behind the rows before it
module _ (F : FieldMeaning) (O : Compare) (n : ℕ) (done : List Poly) (rest : Rest) where
  bad_at : (why : Reason) (k : ℕ) → Reads F O n (file_length rest) done rest.bytes.now (bad why ((file_length rest - length rest.bytes.now) + k)) → Reads F O n (file_length rest) done rest.bytes.now (bad why (rest.offset + k))
  bad_at why k h =
      let z : (file_length rest - length rest.bytes.now) + k ≡ rest.offset + k = omega arith in
      subst (λ x. Reads F O n (file_length rest) done rest.bytes.now (bad why x)) z h

  -- that is none
  pub record_fails : (e : Fault) → 0 < length rest.bytes.now → ReadsRecord rest (Err e) → Fails (Reads F O n (file_length rest) done rest.bytes.now) e
  record_fails (Bad why at) some h = subst (λ x. Reads F O n (file_length rest) done rest.bytes.now (bad why x)) (sym h.1) (bad_at why h.0 (no_record some h.2))
  record_fails Memory some h = tt

  -- whose polynomial f is checked
  module _ (f : Poly) where
    pub fault_within : (why : Reason) → ChecksRow F O n done f (Err why) → rest.offset + behind why < 2 ^ 64
    fault_within why h = omega (arith, rest.in_file, behind_small F O n (map leading done) f why h)

    pub row_fails : (why : Reason) {more : List ℕ} → IsRun rest.bytes.now f (2 ∷ more) → ChecksRow F O n done f (Err why) → Reads F O n (file_length rest) done rest.bytes.now (bad why (rest.offset + behind why))
    row_fails why run h = bad_at why (behind why) (no_row run h)

    pub row_found : (r : Row) (left : Rest) → IsRun rest.bytes.now f (2 ∷ left.bytes.now) → file_length left ≡ file_length rest → ChecksRow F O n done f (Ok r) → IsFound F O n done rest r left
    row_found r left run file h = record {
      comes = λ o q. row run h.0 (subst (λ x. Reads F O n (file_length rest) (done ++ (x ∷ [])) left.bytes.now o) h.1 q);
      file = file;
      shorter = omega (arith, ap length run.written, length-append (poly_bytes f) (2 ∷ left.bytes.now));
    }
