-- What becomes of what the rows left of a polynomial.
use Rattle.std.proofs.Common.{◌≡◌, ℕ, ◌-◌, ◌∙◌, ◌<◌, ◌≤◌, Bool, List, [], ◌∷◌, ◌++◌, map, length, Ok, Err, Result, MatchResult, false, eqb, refl, sym, subst, subst₂, arith}
use mathlib.Core.List.Memᴰ
use lib.ListN.{length-map}
use Rattle.std.proofs.lemmas.List.{get_or-map}
use Rattle.std.proofs.lemmas.Bool.{eqb-false}
use Rattle.monomial.specs.Monomial.{Wide, one}
use Rattle.polynomial.specs.declared.term.Term.{Term}
use Rattle.polynomial.specs.Polynomial.{Poly, Over, leading, leading_coefficient}
use Rattle.polynomial.specs.Check.{Acceptable, Fits}
use Rattle.involutive.specs.Value.{scaled}
use Rattle.involutive.specs.Sheet.{Setting, Lawful, State, most_rows, with_row}
use Rattle.involutive.specs.Sound.{Sound, Row as Good}
use Rattle.involutive.proofs.Soundness
use Rattle.calls.specs.declared.refusal.Refusal.{Refusal}
use Rattle.calls.specs.declared.refusal.Refusal.TheVariants.{Full}
use Rattle.reduction.specs.declared.table.Row.{Row}
use Rattle.reduction.specs.Table.{terms_of, table_of, SoundTable}
use Rattle.sheet.specs.declared.settle.Settled.TheVariants.{Nothing, Appended as SettledAppended}
use Rattle.sheet.specs.declared.settle.Settled.{Settled}
use Rattle.sheet.specs.Marks.{marked, state_of}
use Rattle.sheet.specs.Rows.{lead_of, Appended}
use Rattle.sheet.specs.Settling.{Left, Settles, nothing, full, appends}
use Rattle.sheet.proofs.Whole.{Whole}
use Rattle.sheet.proofs.Standing.{stands}

-- g, which these rows left of a polynomial, is not zero
pub record Rest (S : Setting) (rows : List Row) (g : Poly) : Type 0 where
  pub whole : Whole S rows
  pub left : Left S (table_of rows) g
  pub some : 0 < length g

pub rest_of : {S : Setting} {rows : List Row} {g done : Poly} → Whole S rows → Left S (table_of rows) done → g ≡ done → false ≡ eqb (length g) 0 → Rest S rows g
rest_of {S = S} {rows = rows} {g = g} W L e t =
    let n = eqb-false (length g) 0 (sym t) in
    record { whole = W; left = subst (Left S (table_of rows)) (sym e) L; some = omega (arith, n) }

pub settle_nothing : {S : Setting} {s : State} (g : Poly) → length g ≡ 0 → Settles S s g (Ok Nothing) s
settle_nothing [] e = nothing
settle_nothing (t ∷ g) e = absurd (omega (arith, e))

abbrev made : Setting → Poly → Poly
made S g = scaled S.field (S.field.inv (leading_coefficient g)) one g

-- what appending says of g, of a table with so many rows
abbrev pub Says : Setting → List Row → List Row → Poly → Result (Unit {0}) Refusal → ℕ → Type 0
Says S rows new g r len = Over S.field S.variables g → 0 < leading_coefficient g → Fits (made S g) → MatchResult r (λ _. (len < most_rows) × Appended S.division (made S g) (leading g) rows new) (λ d. (d ≡ Full) × (most_rows ≤ len))

module _ {S : Setting} {rows : List Row} (t : Term) (g : Poly) (R : Rest S rows (t ∷ g)) where
  taken : Acceptable S.field S.order S.variables (t ∷ g)
  taken = R.left.acceptable

  monic : Good S (made S (t ∷ g))
  monic = Soundness.monic_row S R.whole.lawful t g taken

  -- what is left may be appended
  says : (new : List Row) (r : Result (Unit {0}) Refusal) (len : ℕ) → Says S rows new (t ∷ g) r len → MatchResult r (λ _. (len < most_rows) × Appended S.division (made S (t ∷ g)) (leading (t ∷ g)) rows new) (λ d. (d ≡ Full) × (most_rows ≤ len))
  says new r len E = E taken.written.over (taken.written.nonzero t (Memᴰ.head refl)) monic.acceptable.fits

module _ {S : Setting} {rows new : List Row} (xs : List (List Bool)) (len : ℕ) (e : len ≡ length rows) where
  pub settle_full : {g : Poly} (d : Refusal) → Rest S rows g → len ≤ most_rows → new ≡ rows → Says S rows new g (Err d) len → Settles S (state_of rows xs) g (Err d) (state_of new xs)
  settle_full {g = []} d R m k E = absurd (let p = R.some in omega (arith, p))
  settle_full {g = t ∷ g} d R m k E =
      let b = says t g R new (Err d) len E in
      subst₂ (λ x r. Settles S (state_of rows xs) (t ∷ g) (Err x) (state_of r xs)) (sym b.0) (sym k) (full (omega (arith, b.1, m, e, length-map rows terms_of)))

  pub settle_appends : {g : Poly} (ys : List (List Bool)) → Rest S rows g → ((k v : ℕ) → marked ys k v ≡ false) → Says S rows new g (Ok tt) len → Settles S (state_of rows xs) g (Ok SettledAppended) (state_of new ys)
  settle_appends {g = []} ys R m E = absurd (let p = R.some in omega (arith, p))
  settle_appends {g = t ∷ g} ys R m E =
      let b = says t g R new (Ok tt) len E in
      let q : with_row S (state_of rows xs) (t ∷ g) ≡ state_of new ys = λ i. record { rows = sym b.1.terms i; marks = λ k v. sym (m k v) i } in
      subst (Settles S (state_of rows xs) (t ∷ g) (Ok SettledAppended)) q (appends (omega (arith, b.0, e, length-map rows terms_of)))

pub settle_stands : {S : Setting} {rows new : List Row} {g : Poly} (len : ℕ) → Rest S rows g → Says S rows new g (Ok tt) len → SoundTable S new
settle_stands {g = []} len R E = absurd (let p = R.some in omega (arith, p))
settle_stands {S = S} {rows = rows} {new = new} {g = t ∷ g} len R E =
    let b = says t g R new (Ok tt) len E in
    let leads = Soundness.monic_leads S R.whole.lawful t g (taken t g R) in
    stands S R.whole.lawful.division rows new (made S (t ∷ g)) R.whole.agrees (subst (λ x. Appended S.division (made S (t ∷ g)) x rows new) (sym leads) b.1) (monic t g R)
    (λ k w e. Soundness.fresh S R.whole.lawful (table_of rows) t g R.left.irreducible k (rw (length-map (table_of rows) leading) at w) (sym (get_or-map leading (table_of rows) (k - 1) [] [] (omega (arith, w, length-map (table_of rows) leading))) ∙ e ∙ leads))

-- the leading monomials after a row more, and that the new one is wide
pub settle_leads : {S : Setting} {rows new : List Row} {g : Poly} (len : ℕ) → Rest S rows g → Says S rows new g (Ok tt) len → Wide (leading g) × (map lead_of new ≡ map lead_of rows ++ (leading g ∷ [])) × (len < most_rows)
settle_leads {g = []} len R E = absurd (let p = R.some in omega (arith, p))
settle_leads {S = S} {rows = rows} {new = new} {g = t ∷ g} len R E =
    let b = says t g R new (Ok tt) len E in
    (((taken t g R).written.over t (Memᴰ.head refl)).1.wide, b.1.leads, b.0)

-- settling keeps a sheet sound
pub settles_sound : {S : Setting} {s s' : State} {g : Poly} {r : Result Settled Refusal} → Lawful S → Left S s.rows g → Settles S s g r s' → Sound S s → Sound S s'
settles_sound W L nothing I = I
settles_sound W L (full m) I = I
settles_sound {S = S} W L (appends l) I = Soundness.new_row S W I l L.acceptable L.irreducible
