use Rattle.std.proofs.Common.{◌*◌, ◌≤◌, Bool, List, vec_items, vec_len}
use Rattle.reduction.specs.Table.{setting}
use Rattle.sheet.specs.Marks.{state_of}
use Rattle.sheet.specs.Copying.{row_room}
use Rattle.sheet.proofs.FairCopying.{Progress}
use Rattle.sheet.proofs.copy.copy_rows.Given as goal

abbrev pub invariant-loop-k : goal.invariant-loop-k
invariant-loop-k g l = (vec_len l.bytes.written ≤ row_room * l.k-index) × ((xs : List (List Bool)) → Progress (setting (g.F.Field.meaning l.rows.ring.now.field) (g.O.Order.meaning l.rows.ring.now.order) (g.D.Division.meaning l.rows.division.now) l.rows.ring.now.variables) (state_of l.rows.rows.now xs) l.list l.k-index (vec_items l.bytes.written))
