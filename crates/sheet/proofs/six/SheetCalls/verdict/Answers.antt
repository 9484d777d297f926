use Rattle.std.proofs.Common.{◌≡◌, Err, vec_items, ap, ◌∙◌, rules}
use Rattle.calls.specs.declared.refusal.Refusal.TheVariants.{NotClosed}
use Rattle.involutive.specs.Log.{After}
use Rattle.sheet.specs.Marks.{rows_of}
use Rattle.involutive.specs.Answers.{verdict_open}
use Rattle.sheet.proofs.Whole.{whole}
use Rattle.sheet.proofs.Closing.{is_closed, is_open, verdict_one, verdict_zero}
use Rattle.sheet.proofs.six.SheetCalls.verdict.Goals as goal

pub returns-in_err-check_closed : goal.returns-in_err-check_closed
returns-in_err-check_closed g c =
    let x = c.args.self.now in
    let W = whole (g.met.F.Field.laws x.ring.field) (g.met.O.Order.laws x.ring.order) (g.met.D.Division.laws x.division) x.some x.few (vec_items x.table.rows) x.agrees in
    let t = c.in_err-check_closed.ensures in
    let y : c.from_residual.result ≡ Err c.in_err-check_closed.field-0.0 = search rules in
    let z : c.from_residual.result ≡ Err NotClosed = y ∙ ap Err t.0 in
    rw z (let k = verdict_open (is_open W (rows_of x.marks) x.queued t.1 t.2) in record { answer = k; logged = λ calls gs a. After.judged a k })

pub returns-then-leads_with_one : goal.returns-then-leads_with_one
returns-then-leads_with_one g c =
    let x = c.args.self.now in
    let xs = rows_of x.marks in
    let W = whole (g.met.F.Field.laws x.ring.field) (g.met.O.Order.laws x.ring.order) (g.met.D.Division.laws x.division) x.some x.few (vec_items x.table.rows) x.agrees in
    let k = verdict_one W xs (is_closed W xs x.queued x.queue.picks.ok.0 c.in_ok-check_closed.ensures) x.sound c.as_slice.ensures.value c.if-leads_with_one.ensures in
    record { answer = k; logged = λ calls gs a. After.judged a k }

pub returns-else-leads_with_one : goal.returns-else-leads_with_one
returns-else-leads_with_one g c =
    let x = c.args.self.now in
    let xs = rows_of x.marks in
    let W = whole (g.met.F.Field.laws x.ring.field) (g.met.O.Order.laws x.ring.order) (g.met.D.Division.laws x.division) x.some x.few (vec_items x.table.rows) x.agrees in
    let k = verdict_zero W xs (is_closed W xs x.queued x.queue.picks.ok.0 c.in_ok-check_closed.ensures) x.sound c.as_slice.ensures.value c.if-leads_with_one.ensures in
    record { answer = k; logged = λ calls gs a. After.judged a k }
