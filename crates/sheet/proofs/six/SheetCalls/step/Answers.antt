use Rattle.std.proofs.Common.{vec_items}
use Rattle.involutive.specs.Log.{After}
use Rattle.involutive.specs.Answers.{step_closed}
use Rattle.sheet.specs.Marks.{rows_of}
use Rattle.sheet.proofs.Whole.{whole}
use Rattle.sheet.proofs.Closing.{is_closed}
use Rattle.sheet.proofs.six.SheetCalls.step.Goals as goal

pub returns-in-None-clause-answer : goal.returns-in-None-clause-answer
returns-in-None-clause-answer g c =
    let x = c.args.self.now in
    let W = whole (g.met.F.Field.laws x.ring.field) (g.met.O.Order.laws x.ring.order) (g.met.D.Division.laws x.division) x.some x.few (vec_items x.table.rows) x.agrees in
    step_closed (is_closed W (rows_of x.marks) x.queued x.queue.picks.ok.0 c.in-None.ensures)

pub returns-in-None-clause-logged : goal.returns-in-None-clause-logged
returns-in-None-clause-logged g c calls gs a = After.stepped a (returns-in-None-clause-answer g c)

pub returns-in-Some-clause-logged : goal.returns-in-Some-clause-logged
returns-in-Some-clause-logged g c calls gs a = After.stepped a c.treat.ensures.treats
