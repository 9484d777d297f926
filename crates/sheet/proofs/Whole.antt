-- A whole sheet: what it is made of keeps its laws, and what its rows keep beside their terms agrees with them.
use Rattle.std.specs.Prelude.{ℕ, ◌≤◌, List}
use Rattle.field.specs.Field.{FieldMeaning, FieldLaws}
use Rattle.monomial.specs.Order.{Compare, OrderLaws}
use Rattle.monomial.specs.Division.{Split, DivisionLaws}
use Rattle.involutive.specs.Sheet.{Setting, Lawful}
use Rattle.reduction.specs.declared.table.Row.{Row}
use Rattle.reduction.specs.Table.{setting, SoundTable}

pub record Whole (S : Setting) (rows : List Row) : Type 0 where
  pub lawful : Lawful S
  pub agrees : SoundTable S rows

pub whole : {F : FieldMeaning} {O : Compare} {D : Split} {n : ℕ} → FieldLaws F → OrderLaws O → DivisionLaws D → 1 ≤ n → n ≤ 6 → (rows : List Row) → SoundTable (setting F O D n) rows → Whole (setting F O D n) rows
whole F O D a b rows T = record { lawful = record { field = F; order = O; division = D; variables = (a, b) }; agrees = T }
