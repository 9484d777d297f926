use Rattle.std.proofs.Common.{◌≤◌, map, vec_items, vec_len, vec_capacity}
use Rattle.sheet.specs.Rows.{lead_of}
use Rattle.sheet.proofs.Selections.{SoFar}
use Rattle.sheet.proofs.select.select.Given as goal

abbrev pub invariant-loop-i : goal.invariant-loop-i
invariant-loop-i g l = (vec_len l.list ≤ l.i) × (32 ≤ vec_capacity l.list) × SoFar (g.O.Order.meaning l.order) (map lead_of l.rows) l.i (vec_items l.list)
