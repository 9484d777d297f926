use Rattle.std.proofs.Common.{◌≡◌, [], Ok, vec_items, sym, subst}
use Rattle.stored.specs.Record.{file_length}
use Rattle.stored.specs.Rows.{polys, ReadsRow}
use Rattle.stored.specs.Stored.{rows, Reads, ends}
use Rattle.stored.proofs.rows.read_rows.Goals as goal

pub returns : goal.returns
returns g c =
    let F = g.F.Field.meaning c.args.ring.now.field in
    let O = g.O.Order.meaning c.args.ring.now.order in
    let n = c.args.ring.now.variables in
    let done = polys (vec_items c.loop-rows.rows) in
    let none : c.loop-rows.rest.bytes.now ≡ [] = subst (λ o. ReadsRow F O n (polys c.deref.result.now) c.loop-rows.rest (Ok o)) c.in_default.is c.in_ok-row.ensures in
    c.loop-rows.invariant.comes (rows done) (subst (λ x. Reads F O n (file_length c.args.records) done x (rows done)) (sym none) ends)
