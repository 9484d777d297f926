use Rattle.std.proofs.Common.{◌≡◌, Err, vec_items, ap, ◌∙◌, rules}
use borrow.Author.Tests.{tests}
use Rattle.reduction.specs.declared.refusal.Denied.TheVariants.{Wide}
use Rattle.reduction.specs.Reducing.{too_wide, small}
use Rattle.reduction.proofs.Prolonging.{acceptable, made, unmade}
use Rattle.reduction.proofs.Renaming.{renamed, unrefused}
use Rattle.reduction.proofs.Standing.{over}
use Rattle.reduction.proofs.rows.Rows.prolong_and_reduce.Goals as goal

pub returns-in_err-map_err : goal.returns-in_err-map_err
returns-in_err-map_err g c =
    let d = c.in_err-map_err.field-0.0 in
    let e = renamed c.prolong.result c.map_err.result _ c.map_err.ensures.cases d c.in_err-map_err.was in
    let p = e.2 in
    let is : d ≡ Wide c.args.row = search (rules, tests) in
    let y : c.from_residual.result ≡ Err d = search rules in
    let z : c.from_residual.result ≡ Err (Wide c.args.row) = y ∙ ap Err is in
    let n : vec_items c.clear.new.self.terms ≡ _ = c.clear.ensures in
    rw (z, n) (too_wide (unmade _ _ c.prolong.result c.prolong.ensures e.0 e.1).1)

pub reduce_within-requires-clause-acceptable : goal.reduce_within-requires-clause-acceptable
reduce_within-requires-clause-acceptable g c =
    let x = c.args.self.now in
    let G = over (g.met.F.Field.laws x.ring.now.field) (g.met.O.Order.laws x.ring.now.order) x.ring.now.variables in
    let m = made _ _ c.prolong.result c.prolong.ensures (unrefused c.prolong.result c.map_err.result _ c.map_err.ensures.cases c.in_ok-map_err.field-0 c.in_ok-map_err.was) in
    rw m.1 (acceptable G (g.D.Division.meaning x.division.now) x.rows.now x.agrees c.args.row c.args.variable c.requires.row c.requires.variable m.0)

pub returns : goal.returns
returns g c =
    let m = made _ _ c.prolong.result c.prolong.ensures (unrefused c.prolong.result c.map_err.result _ c.map_err.ensures.cases c.in_ok-map_err.field-0 c.in_ok-map_err.was) in
    small m.0 (rw m.1 at c.reduce_within.ensures)
