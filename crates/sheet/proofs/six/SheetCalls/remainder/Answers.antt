use Rattle.std.proofs.Common.{◌≡◌, Err, vec_items, ap, ◌∙◌, rules}
use borrow.Author.Tests.{tests}
use Rattle.calls.specs.declared.refusal.Refusal.TheVariants.{NotClosed}
use Rattle.calls.specs.Told.{told}
use Rattle.involutive.specs.Answers.{remainder_open}
use Rattle.involutive.specs.Log.{After}
use Rattle.reduction.specs.Reducing.{told as told_of}
use Rattle.reduction.proofs.Renaming.{renamed, unrefused}
use Rattle.sheet.specs.Marks.{rows_of}
use Rattle.sheet.proofs.Additions.{by_rows, taken}
use Rattle.sheet.proofs.Whole.{whole}
use Rattle.sheet.proofs.Closing.{is_closed, is_open}
use Rattle.sheet.proofs.Puttings.{remains_put, remains_unreduced}
use Rattle.sheet.proofs.six.SheetCalls.remainder.Goals as goal

pub returns-in_err-check_closed-clause-answer : goal.returns-in_err-check_closed-clause-answer
returns-in_err-check_closed-clause-answer g c =
    let x = c.args.self.now in
    let W = whole (g.met.F.Field.laws x.ring.field) (g.met.O.Order.laws x.ring.order) (g.met.D.Division.laws x.division) x.some x.few (vec_items x.table.rows) x.agrees in
    let t = c.in_err-check_closed.ensures in
    let y : c.from_residual.result ≡ Err c.in_err-check_closed.field-0.0 = search rules in
    let z : c.from_residual.result ≡ Err NotClosed = y ∙ ap Err t.0 in
    rw z (remainder_open (is_open W (rows_of x.marks) x.queued t.1 t.2))

pub returns-in_err-check_closed-clause-logged : goal.returns-in_err-check_closed-clause-logged
returns-in_err-check_closed-clause-logged g c calls gs a = After.reduced a (returns-in_err-check_closed-clause-answer g c)

pub returns-in_err-map_err-clause-answer : goal.returns-in_err-map_err-clause-answer
returns-in_err-map_err-clause-answer g c =
    let x = c.args.self.now in
    let W = whole (g.met.F.Field.laws x.ring.field) (g.met.O.Order.laws x.ring.order) (g.met.D.Division.laws x.division) x.some x.few (vec_items x.table.rows) x.agrees in
    let d = c.in_err-map_err.field-0.0 in
    let e = renamed c.reduce.result c.map_err.result _ c.map_err.ensures.cases d c.in_err-map_err.was in
    let p = e.2 in
    let t : told d ≡ told_of e.0 = search (rules, tests) in
    let y : c.from_residual-in_err-map_err.result ≡ Err d = search rules in
    rw (y, t) (remains_unreduced (is_closed W (rows_of x.marks) x.queued x.queue.picks.ok.0 c.in_ok-check_closed.ensures) (by_rows c.as_slice.ensures.value e.1 c.reduce.ensures))

pub returns-in_err-map_err-clause-logged : goal.returns-in_err-map_err-clause-logged
returns-in_err-map_err-clause-logged g c calls gs a = After.reduced a (returns-in_err-map_err-clause-answer g c)

pub returns-clause-answer : goal.returns-clause-answer
returns-clause-answer g c =
    let x = c.args.self.now in
    let W = whole (g.met.F.Field.laws x.ring.field) (g.met.O.Order.laws x.ring.order) (g.met.D.Division.laws x.division) x.some x.few (vec_items x.table.rows) x.agrees in
    let o = unrefused c.reduce.result c.map_err.result _ c.map_err.ensures.cases c.in_ok-map_err.field-0 c.in_ok-map_err.was in
    let T = taken (by_rows c.as_slice.ensures.value o c.reduce.ensures) in
    remains_put (is_closed W (rows_of x.marks) x.queued x.queue.picks.ok.0 c.in_ok-check_closed.ensures) T.faultless T.reduced c.put.result c.as_slice-2.ensures.value c.put.ensures

pub returns-clause-logged : goal.returns-clause-logged
returns-clause-logged g c calls gs a = After.reduced a (returns-clause-answer g c)
