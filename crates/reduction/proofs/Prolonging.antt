-- A row times a variable, from the multiple that was made.
use Rattle.std.proofs.Common.{◌≡◌, ℕ, ◌-◌, ◌<◌, ◌≤◌, List, [], length, get_or, refl, Ok, Err, Result, MatchResult, sym, ap, ◌∙◌, subst, ap₂, arith}
use Rattle.std.specs.Result.{is_err}
use Rattle.std.proofs.lemmas.Bool.{false≢true}
use Rattle.field.specs.Field.{FieldMeaning}
use Rattle.monomial.specs.Monomial.{variable}
use Rattle.monomial.specs.Order.{Compare}
use Rattle.monomial.specs.Division.{Split, Within}
use Rattle.polynomial.specs.Polynomial.{Poly, Over}
use Rattle.polynomial.specs.Check.{Acceptable, Fits, most_terms}
use Rattle.involutive.specs.Value.{scaled}
use Rattle.involutive.specs.Reduction.{row}
use Rattle.involutive.proofs.Monomials.{in_variable}
use Rattle.involutive.proofs.Typing.{Ground}
use Rattle.involutive.proofs.Values.{length_scaled}
use Rattle.involutive.proofs.WrittenLists.{written_scaled}
use Rattle.reduction.specs.declared.table.Row.{Row}
use Rattle.reduction.specs.declared.refusal.Reason.{Reason}
use Rattle.reduction.specs.declared.refusal.Reason.TheVariants.{Wide, Long}
use Rattle.reduction.specs.Subtraction.{Unscaled}
use Rattle.reduction.specs.Table.{setting, terms_of, table_of, SoundTable}
use Rattle.reduction.proofs.Lines.{good_at}
use Rattle.reduction.proofs.Mapping.{map_at}

module _ (F : FieldMeaning) (O : Compare) (D : Split) (n : ℕ) (rows : List Row) (I : SoundTable (setting F O D n) rows) (k v : ℕ) (w : Within k (length rows)) (it : Row) (e : it ≡ get_or rows (k - 1) it) where
  -- what `scale` says of the row's terms, as they were read, it says of that row of the table
  pub prolonged_row : (r : Result (Unit {0}) Reason) (out read : Poly) (x : List ℕ) → read ≡ terms_of (get_or rows (k - 1) it) → x ≡ variable v → 1 < F.q →
      (Over F n read → 1 < F.q → MatchResult r (λ _. Fits (scaled F 1 x read) × (out ≡ scaled F 1 x read)) (Unscaled read (scaled F 1 x read))) →
      MatchResult r (λ _. Fits (scaled F 1 (variable v) (row (table_of rows) k)) × (out ≡ scaled F 1 (variable v) (row (table_of rows) k))) (λ why. (why ≡ Wide) × (Fits (scaled F 1 (variable v) (row (table_of rows) k)) → ⊥))
  prolonged_row r out read x q p one f = go r (f (subst (Over F n) (sym t) good.acceptable.written.over) one)
    where
      h : k - 1 < length rows
      h = omega (arith, w)

      good : Rattle.involutive.specs.Sound.Row (setting F O D n) (terms_of it)
      good = (I.each (k - 1) it h e).good

      t : read ≡ terms_of it
      t = q ∙ ap terms_of (sym e)

      y : scaled F 1 x read ≡ scaled F 1 (variable v) (row (table_of rows) k)
      y = ap₂ (λ a f. scaled F 1 a f) p (t ∙ sym (map_at terms_of rows (k - 1) it [] h e))

      go : (r : Result (Unit {0}) Reason) → MatchResult r (λ _. Fits (scaled F 1 x read) × (out ≡ scaled F 1 x read)) (Unscaled read (scaled F 1 x read)) →
          MatchResult r (λ _. Fits (scaled F 1 (variable v) (row (table_of rows) k)) × (out ≡ scaled F 1 (variable v) (row (table_of rows) k))) (λ why. (why ≡ Wide) × (Fits (scaled F 1 (variable v) (row (table_of rows) k)) → ⊥))
      go (Ok u) s = (subst Fits y s.0, s.1 ∙ y)
      go (Err Long) l = absurd (let m = subst (λ z. length z ≤ most_terms) (sym t) good.acceptable.short in omega (arith, l, m))
      go (Err Wide) d = (refl, λ f. d.1 (subst Fits (sym y) f))

-- the product, where no exponent is above 40, can be reduced
module _ (G : Ground) (D : Split) (rows : List Row) (I : SoundTable (setting G.field G.order D G.variables) rows) (k v : ℕ) (w : Within k (length rows)) (u : Within v G.variables) where
  pub acceptable : Fits (scaled G.field 1 (variable v) (row (table_of rows) k)) → Acceptable G.field G.order G.variables (scaled G.field 1 (variable v) (row (table_of rows) k))
  acceptable h =
      let a = (good_at (setting G.field G.order D G.variables) rows I k w).acceptable in
      record {
        written = written_scaled G 1 (variable v) (omega arith) G.laws.differ (in_variable u) (row (table_of rows) k) a.written;
        fits = h;
        short = subst (λ n. n ≤ most_terms) (sym (length_scaled G.field 1 (variable v) (row (table_of rows) k))) a.short;
      }

-- what making a product said, where it was made and where it was not
pub made : {E : Type 0} (P : Type 0) (Q : E → Type 0) (r : Result (Unit {0}) E) → MatchResult r (λ _. P) Q → r ≡ Ok tt → P
made P Q (Ok u) m o = m
made P Q (Err e) m o = absurd (false≢true (sym (ap is_err o)))

pub unmade : {E : Type 0} (P : Type 0) (Q : E → Type 0) (r : Result (Unit {0}) E) → MatchResult r (λ _. P) Q → (e : E) → r ≡ Err e → Q e
unmade P Q (Ok u) m e o = absurd (false≢true (ap is_err o))
unmade P Q (Err x) m e o = subst Q (err_same x e o) m
  where
    err_same : {E : Type 0} (x e : E) → ◌≡◌ {A = Result (Unit {0}) E} (Err x) (Err e) → x ≡ e
    err_same x e q = cc q
