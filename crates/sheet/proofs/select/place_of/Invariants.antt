use Rattle.std.proofs.Common.{◌≡◌, ◌++◌, map, take, drop}
use Rattle.sheet.specs.Rows.{lead_of}
use Rattle.sheet.specs.Selecting.{placed}
use Rattle.sheet.proofs.select.place_of.Given as goal

abbrev pub invariant-loop-i : goal.invariant-loop-i
invariant-loop-i g l = take l.i l.list ++ placed (g.O.Order.meaning l.order) (map lead_of l.rows) l.k (drop l.i l.list) ≡ placed (g.O.Order.meaning l.order) (map lead_of l.rows) l.k l.list
