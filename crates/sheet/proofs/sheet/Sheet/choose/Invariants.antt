use Rattle.std.proofs.Common.{vec_items}
use Rattle.sheet.specs.Marks.{rows_of}
use Rattle.sheet.specs.Queueing.{Passed}
use Rattle.sheet.proofs.sheet.Sheet.choose.Given as goal

abbrev pub invariant-loop-at : goal.invariant-loop-at
invariant-loop-at g l = Passed (vec_items l.self.table.rows) (rows_of l.self.marks) (vec_items l.self.queue.picks) l.at
