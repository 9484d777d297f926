use Rattle.std.proofs.Common.{◌≡◌, length, Err, vec_items, ◌∙◌, rules}
use borrow.Author.Tests.{tests}
use lib.ListN.{length-map}
use Rattle.calls.specs.Told.{told}
use Rattle.reduction.specs.Reducing.{told as told_of}
use Rattle.reduction.specs.Table.{terms_of, table_of}
use Rattle.reduction.proofs.Renaming.{renamed, unrefused}
use Rattle.sheet.proofs.Additions.{by_rows, adds_unreduced, taken, left_of, adds_settled, adds_full}
use Rattle.sheet.proofs.Whole.{whole}
use Rattle.sheet.proofs.sheet.Sheet.add.Goals as goal

pub returns-in_err-map_err-clause-adds : goal.returns-in_err-map_err-clause-adds
returns-in_err-map_err-clause-adds g c =
    let d = c.in_err-map_err.field-0.0 in
    let e = renamed c.reduce.result c.map_err.result _ c.map_err.ensures.cases d c.in_err-map_err.was in
    let p = e.2 in
    let t : told d ≡ told_of e.0 = search (rules, tests) in
    let y : c.from_residual.result ≡ Err d = search rules in
    rw (y, t) (adds_unreduced (by_rows c.as_slice.ensures.value e.1 c.reduce.ensures))

pub settle-requires : goal.settle-requires
settle-requires g c =
    let x = c.args.self.now in
    let W = whole (g.met.F.Field.laws x.ring.field) (g.met.O.Order.laws x.ring.order) (g.met.D.Division.laws x.division) x.some x.few (vec_items x.table.rows) x.agrees in
    let o = unrefused c.reduce.result c.map_err.result _ c.map_err.ensures.cases c.in_ok-map_err.field-0 c.in_ok-map_err.was in
    left_of W.lawful (taken (by_rows c.as_slice.ensures.value o c.reduce.ensures))

pub returns-in_err-settle-clause-adds : goal.returns-in_err-settle-clause-adds
returns-in_err-settle-clause-adds g c =
    let o = unrefused c.reduce.result c.map_err.result _ c.map_err.ensures.cases c.in_ok-map_err.field-0 c.in_ok-map_err.was in
    let z : c.from_residual-in_err-settle.result ≡ Err c.in_err-settle.field-0.0 = search rules in
    rw z (adds_full (taken (by_rows c.as_slice.ensures.value o c.reduce.ensures)) c.in_err-settle.ensures.settles)

pub returns-clause-adds : goal.returns-clause-adds
returns-clause-adds g c =
    let o = unrefused c.reduce.result c.map_err.result _ c.map_err.ensures.cases c.in_ok-map_err.field-0 c.in_ok-map_err.was in
    let rows = vec_items c.settle.new.self.table.rows in
    let k : length (table_of rows) ≡ c.len.result = length-map rows terms_of ∙ search rules in
    adds_settled (taken (by_rows c.as_slice.ensures.value o c.reduce.ensures)) k c.in_ok-settle.ensures.settles
