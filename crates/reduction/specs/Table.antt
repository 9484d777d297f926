-- A table of the code, as the polynomials of its rows, and when it is sound.
use Rattle.std.specs.Prelude.{◌≡◌, ℕ, suc, ◌-◌, ◌<◌, false, List, map, length, Some, vec_items, slice_index_or}
use Rattle.field.specs.Field.{FieldMeaning}
use Rattle.monomial.specs.Monomial.{width}
use Rattle.monomial.specs.Order.{Compare}
use Rattle.monomial.specs.Division.{Split, Within, Distinct}
use Rattle.polynomial.specs.Polynomial.{Poly, leading}
use Rattle.involutive.specs.Reduction.{Table, leaders}
use Rattle.involutive.specs.Sheet.{Setting}
use Rattle.involutive.specs.Sound.{Row as Good}
use Rattle.reduction.specs.declared.table.Row.{Row}

abbrev pub setting : FieldMeaning → Compare → Split → ℕ → Setting
setting F O D n = record { field = F; order = O; division = D; variables = n }

abbrev pub terms_of : Row → Poly
terms_of r = vec_items r.terms

abbrev pub table_of : List Row → Table
table_of rows = map terms_of rows

-- row i of the table T, counted from 0: its polynomial is that of a sheet's row, and beside it stand its leading
-- monomial and what the division says of that in the table
pub record SoundRow (S : Setting) (T : Table) (i : ℕ) (r : Row) : Type 0 where
  pub good : Good S (terms_of r)
  pub lead : r.lead.monomial.exponents ≡ leading (terms_of r)
  pub flags : (v : ℕ) → Within v width → S.division (leaders T) (suc i) v ≡ Some (slice_index_or r.lead.multiplicative (v - 1) false)

-- each row is sound, and no two rows share a leading monomial
pub record SoundTable (S : Setting) (rows : List Row) : Type 0 where
  pub each : (i : ℕ) (r : Row) → i < length rows → r ≡ slice_index_or rows i r → SoundRow S (table_of rows) i r
  pub distinct : Distinct (leaders (table_of rows))
