use Rattle.std.proofs.Common.{◌≡◌, Err, vec_items, ap, ◌∙◌, rules}
use Rattle.calls.specs.declared.refusal.Refusal.TheVariants.{NotClosed}
use Rattle.involutive.specs.Answers.{copy_open}
use Rattle.involutive.specs.Log.{After}
use Rattle.sheet.specs.Marks.{rows_of}
use Rattle.sheet.proofs.Whole.{whole}
use Rattle.sheet.proofs.Closing.{is_closed, is_open, copied_rows}
use Rattle.sheet.proofs.six.SheetCalls.fair_copy.Goals as goal

pub returns-in_err-check_closed-clause-answer : goal.returns-in_err-check_closed-clause-answer
returns-in_err-check_closed-clause-answer g c =
    let x = c.args.self.now in
    let W = whole (g.met.F.Field.laws x.ring.field) (g.met.O.Order.laws x.ring.order) (g.met.D.Division.laws x.division) x.some x.few (vec_items x.table.rows) x.agrees in
    let t = c.in_err-check_closed.ensures in
    let y : c.from_residual.result ≡ Err c.in_err-check_closed.field-0.0 = search rules in
    let z : c.from_residual.result ≡ Err NotClosed = y ∙ ap Err t.0 in
    rw z (copy_open (is_open W (rows_of x.marks) x.queued t.1 t.2))

pub returns-in_err-check_closed-clause-logged : goal.returns-in_err-check_closed-clause-logged
returns-in_err-check_closed-clause-logged g c calls gs a = After.copied a (returns-in_err-check_closed-clause-answer g c)

pub returns-clause-answer : goal.returns-clause-answer
returns-clause-answer g c =
    let x = c.args.self.now in
    let xs = rows_of x.marks in
    let W = whole (g.met.F.Field.laws x.ring.field) (g.met.O.Order.laws x.ring.order) (g.met.D.Division.laws x.division) x.some x.few (vec_items x.table.rows) x.agrees in
    copied_rows W xs c.args.out.now c.write_fair_copy.result c.write_fair_copy.new.out c.as_slice.ensures.value (is_closed W xs x.queued x.queue.picks.ok.0 c.in_ok-check_closed.ensures) (c.write_fair_copy.ensures.answer xs)

pub returns-clause-logged : goal.returns-clause-logged
returns-clause-logged g c calls gs a = After.copied a (returns-clause-answer g c)
