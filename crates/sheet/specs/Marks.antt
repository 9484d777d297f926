-- The marks of a sheet, as the code keeps them.
use Rattle.std.specs.Prelude.{ℕ, ◌-◌, Bool, false, ◌&&◌, List, [], nat_lt, slice_index_or}
use Rattle.reduction.specs.declared.table.Row.{Row}
use Rattle.reduction.specs.Table.{table_of}
use Rattle.involutive.specs.Sheet.{State}
use Rattle.sheet.specs.declared.marks.Marks.{Marks}

abbrev pub rows_of : Marks → List (List Bool)
rows_of m = m.rows

-- the mark at row k and variable v, both counted from 1
abbrev pub marked : List (List Bool) → ℕ → ℕ → Bool
marked xs k v = nat_lt 0 k && (nat_lt 0 v && slice_index_or (slice_index_or xs (k - 1) []) (v - 1) false)

-- the state that rows and marks make
abbrev pub state_of : List Row → List (List Bool) → State
state_of rows xs = record { rows = table_of rows; marks = marked xs }
