use Rattle.std.proofs.Common.{◌≡◌, ◌<◌, Err, length, vec_items, vec_len, ap, arith, rules}
use Rattle.std.proofs.Math.Logic.{∥∥₁_map}
use borrow.Author.Tests.{tests}
use Rattle.calls.specs.Told.{told}
use Rattle.involutive.proofs.Soundness
use Rattle.reduction.specs.Reducing.{told as told_of}
use Rattle.reduction.specs.Table.{setting}
use Rattle.reduction.proofs.Renaming.{renamed, unrefused}
use Rattle.sheet.specs.Marks.{rows_of, state_of}
use Rattle.sheet.specs.Queueing.{Passed}
use Rattle.sheet.proofs.Closing.{chosen_some}
use Rattle.sheet.proofs.Logging.{stays_sound}
use Rattle.sheet.proofs.Passing.{unappended, passed_more}
use Rattle.sheet.proofs.Present.{answered}
use Rattle.sheet.proofs.Treating.{by_rows, there, steps_unreduced, taken, left_of, treat_denied, treat_marked, treat_appended}
use Rattle.sheet.proofs.Whole.{whole}
use Rattle.sheet.proofs.sheet.Sheet.treat.Goals as goal

pub unwrap-requires : goal.unwrap-requires
unwrap-requires g c =
    let x = c.args.self.now in
    let W = whole (g.met.F.Field.laws x.ring.field) (g.met.O.Order.laws x.ring.order) (g.met.D.Division.laws x.division) x.some x.few (vec_items x.table.rows) x.agrees in
    let C = chosen_some W (rows_of x.marks) x.queued c.args.at c.index-pick.result.now c.requires.passed c.requires.waits c.index-pick.ensures in
    c.reduce_prolongation.ensures.there.1 (rw c.as_slice.ensures.value (there _ (vec_items x.table.rows) (rows_of x.marks) C))

pub returns-in_err-map_err-clause-treats : goal.returns-in_err-map_err-clause-treats
returns-in_err-map_err-clause-treats g c =
    let x = c.args.self.now in
    let W = whole (g.met.F.Field.laws x.ring.field) (g.met.O.Order.laws x.ring.order) (g.met.D.Division.laws x.division) x.some x.few (vec_items x.table.rows) x.agrees in
    let C = chosen_some W (rows_of x.marks) x.queued c.args.at c.index-pick.result.now c.requires.passed c.requires.waits c.index-pick.ensures in
    let d = c.in_err-map_err.field-0.0 in
    let e = renamed c.unwrap.result c.map_err.result _ c.map_err.ensures.cases d c.in_err-map_err.was in
    let p = e.2 in
    let t : told d ≡ told_of e.0 = search (rules, tests) in
    let y : c.from_residual.result ≡ Err d = search rules in
    let A = by_rows c.as_slice.ensures.value (answered _ c.reduce_prolongation.result c.unwrap.result c.reduce_prolongation.ensures.answer c.unwrap.ensures) in
    rw (y, t) (steps_unreduced C (rw e.1 at A))

pub settle-requires : goal.settle-requires
settle-requires g c =
    let x = c.args.self.now in
    let W = whole (g.met.F.Field.laws x.ring.field) (g.met.O.Order.laws x.ring.order) (g.met.D.Division.laws x.division) x.some x.few (vec_items x.table.rows) x.agrees in
    let C = chosen_some W (rows_of x.marks) x.queued c.args.at c.index-pick.result.now c.requires.passed c.requires.waits c.index-pick.ensures in
    let A = by_rows c.as_slice.ensures.value (answered _ c.reduce_prolongation.result c.unwrap.result c.reduce_prolongation.ensures.answer c.unwrap.ensures) in
    let T = taken C (rw (unrefused c.unwrap.result c.map_err.result _ c.map_err.ensures.cases c.in_ok-map_err.field-0 c.in_ok-map_err.was) at A) in
    left_of (rows_of x.marks) W T

pub returns-in_err-settle-clause-treats : goal.returns-in_err-settle-clause-treats
returns-in_err-settle-clause-treats g c =
    let x = c.args.self.now in
    let W = whole (g.met.F.Field.laws x.ring.field) (g.met.O.Order.laws x.ring.order) (g.met.D.Division.laws x.division) x.some x.few (vec_items x.table.rows) x.agrees in
    let C = chosen_some W (rows_of x.marks) x.queued c.args.at c.index-pick.result.now c.requires.passed c.requires.waits c.index-pick.ensures in
    let A = by_rows c.as_slice.ensures.value (answered _ c.reduce_prolongation.result c.unwrap.result c.reduce_prolongation.ensures.answer c.unwrap.ensures) in
    let T = taken C (rw (unrefused c.unwrap.result c.map_err.result _ c.map_err.ensures.cases c.in_ok-map_err.field-0 c.in_ok-map_err.was) at A) in
    let y = c.settle.new.self in
    let d = c.in_err-settle.field-0.0 in
    let z : c.from_residual-in_err-settle.result ≡ Err d = search rules in
    rw z (treat_denied T d (state_of (vec_items y.table.rows) (rows_of y.marks)) c.in_err-settle.ensures.settles)

pub returns-in-Nothing-clause-treats : goal.returns-in-Nothing-clause-treats
returns-in-Nothing-clause-treats g c =
    let x = c.args.self.now in
    let W = whole (g.met.F.Field.laws x.ring.field) (g.met.O.Order.laws x.ring.order) (g.met.D.Division.laws x.division) x.some x.few (vec_items x.table.rows) x.agrees in
    let C = chosen_some W (rows_of x.marks) x.queued c.args.at c.index-pick.result.now c.requires.passed c.requires.waits c.index-pick.ensures in
    let A = by_rows c.as_slice.ensures.value (answered _ c.reduce_prolongation.result c.unwrap.result c.reduce_prolongation.ensures.answer c.unwrap.ensures) in
    let T = taken C (rw (unrefused c.unwrap.result c.map_err.result _ c.map_err.ensures.cases c.in_ok-map_err.field-0 c.in_ok-map_err.was) at A) in
    let y = c.settle.new.self in
    treat_marked T c.in_ok-settle.field-0 (vec_items y.table.rows) (rows_of y.marks) (rows_of c.mark.new.self) c.in-Nothing.is c.in_ok-settle.ensures.settles c.mark.ensures

pub returns-in-Appended-clause-treats : goal.returns-in-Appended-clause-treats
returns-in-Appended-clause-treats g c =
    let x = c.args.self.now in
    let W = whole (g.met.F.Field.laws x.ring.field) (g.met.O.Order.laws x.ring.order) (g.met.D.Division.laws x.division) x.some x.few (vec_items x.table.rows) x.agrees in
    let C = chosen_some W (rows_of x.marks) x.queued c.args.at c.index-pick.result.now c.requires.passed c.requires.waits c.index-pick.ensures in
    let A = by_rows c.as_slice.ensures.value (answered _ c.reduce_prolongation.result c.unwrap.result c.reduce_prolongation.ensures.answer c.unwrap.ensures) in
    let T = taken C (rw (unrefused c.unwrap.result c.map_err.result _ c.map_err.ensures.cases c.in_ok-map_err.field-0 c.in_ok-map_err.was) at A) in
    let y = c.settle.new.self in
    treat_appended T c.in_ok-settle.field-0 (state_of (vec_items y.table.rows) (rows_of y.marks)) c.in-Appended.is c.in_ok-settle.ensures.settles

pub invariant_of-self-in-Nothing : goal.invariant_of-self-in-Nothing
invariant_of-self-in-Nothing g c =
    let q = unappended c.in_ok-settle.field-0 c.in-Nothing.is c.in_ok-settle.ensures.queue in
    let n : vec_len c.settle.new.self.queue.picks ≡ vec_len c.args.self.now.queue.picks = ap (λ z. vec_len z.picks) q in
    let k = c.args.self.now.queue.picks.ok.0 in
    let w = c.requires.waits.0 in
    record { room = c.settle.new.self.queue.room; inside = omega (arith, n, k, w) }

pub invariant_of-self-in-Nothing-2-clause-sound : goal.invariant_of-self-in-Nothing-2-clause-sound
invariant_of-self-in-Nothing-2-clause-sound g c =
    let x = c.args.self.now in
    let W = whole (g.met.F.Field.laws x.ring.field) (g.met.O.Order.laws x.ring.order) (g.met.D.Division.laws x.division) x.some x.few (vec_items x.table.rows) x.agrees in
    let C = chosen_some W (rows_of x.marks) x.queued c.args.at c.index-pick.result.now c.requires.passed c.requires.waits c.index-pick.ensures in
    let A = by_rows c.as_slice.ensures.value (answered _ c.reduce_prolongation.result c.unwrap.result c.reduce_prolongation.ensures.answer c.unwrap.ensures) in
    let T = taken C (rw (unrefused c.unwrap.result c.map_err.result _ c.map_err.ensures.cases c.in_ok-map_err.field-0 c.in_ok-map_err.was) at A) in
    let y = c.settle.new.self in
    let Z = treat_marked T c.in_ok-settle.field-0 (vec_items y.table.rows) (rows_of y.marks) (rows_of c.mark.new.self) c.in-Nothing.is c.in_ok-settle.ensures.settles c.mark.ensures in
    ∥∥₁_map x.sound (λ I. stays_sound (λ r d. setting (g.F.Field.meaning r.field) (g.O.Order.meaning r.order) (g.D.Division.meaning d) r.variables) c.settle.ensures.setting (Soundness.steps (setting (g.F.Field.meaning x.ring.field) (g.O.Order.meaning x.ring.order) (g.D.Division.meaning x.division) x.ring.variables) W.lawful I Z))

pub invariant_of-self-in-Nothing-2-clause-passed : goal.invariant_of-self-in-Nothing-2-clause-passed
invariant_of-self-in-Nothing-2-clause-passed g c =
    let y = c.settle.new.self in
    let k = unappended c.in_ok-settle.field-0 c.in-Nothing.is c.in_ok-settle.ensures.kept in
    let q = unappended c.in_ok-settle.field-0 c.in-Nothing.is c.in_ok-settle.ensures.queue in
    let P : Passed (vec_items y.table.rows) (rows_of y.marks) (vec_items y.queue.picks) c.args.at = rw (k.0, k.1, q) c.requires.passed in
    let h : c.args.at < length (vec_items y.queue.picks) = rw q c.requires.waits.0 in
    let e : c.index-pick.result.now ≡ _ = c.index-pick.ensures in
    passed_more (vec_items y.table.rows) (rows_of y.marks) (rows_of c.mark.new.self) (vec_items y.queue.picks) c.args.at c.index-pick.result.now P h (rw q e) c.mark.ensures
