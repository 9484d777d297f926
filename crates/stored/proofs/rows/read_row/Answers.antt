use Rattle.std.proofs.Common.{◌≡◌, ◌+◌, ◌<◌, length, Err, vec_items, sym, subst, arith, rules}
use borrow.Author.Tests.{eqb-false}
use Rattle.stored.specs.declared.fault.Fault.TheVariants.{Bad}
use Rattle.stored.specs.Rows.{polys, ChecksRow, ReadsRow}
use Rattle.stored.specs.Stored.{behind}
use Rattle.stored.proofs.Errors.{is_that_error, kept, renamed}
use Rattle.stored.proofs.Rowing.{fault_within, record_fails, row_fails, row_found}
use Rattle.stored.proofs.rows.read_row.Goals as goal

pub returns-in_err-terms : goal.returns-in_err-terms
returns-in_err-terms g c =
    let F = g.F.Field.meaning c.args.ring.now.field in
    let O = g.O.Order.meaning c.args.ring.now.order in
    let e = c.in_err-terms.field-0.0 in
    let some : 0 < length c.args.rest.bytes.now = omega (arith, eqb-false (length c.args.rest.bytes.now) 0 (sym c.if-is_empty.ensures)) in
    is_that_error (ReadsRow F O c.args.ring.now.variables (polys c.args.before.now) c.args.rest) c.from_residual.result e c.from_residual.ensures.1
    (record_fails F O c.args.ring.now.variables (polys c.args.before.now) c.args.rest e some c.in_err-terms.ensures)

pub map_err-requires : goal.map_err-requires
map_err-requires g c = λ why is.
    let F = g.F.Field.meaning c.args.ring.now.field in
    let O = g.O.Order.meaning c.args.ring.now.order in
    let n = c.args.ring.now.variables in
    let before = polys c.args.before.now in
    let f = vec_items c.in_ok-terms.terms in
    let within = fault_within F O n before c.args.rest f why (subst (ChecksRow F O n before f) is c.check_row.ensures) in
    search rules

pub returns-in_err-row : goal.returns-in_err-row
returns-in_err-row g c =
    let F = g.F.Field.meaning c.args.ring.now.field in
    let O = g.O.Order.meaning c.args.ring.now.order in
    let n = c.args.ring.now.variables in
    let before = polys c.args.before.now in
    let f = vec_items c.in_ok-terms.terms in
    let (why, bad, told) = renamed (ChecksRow F O n before f) _ _ _ c.map_err.ensures.cases c.check_row.ensures c.in_err-row.was in
    let e : c.in_err-row.field-0.0 ≡ Bad why (c.args.rest.offset + behind why) = search rules in
    is_that_error (ReadsRow F O n before c.args.rest) c.from_residual-in_err-row.result _ c.from_residual-in_err-row.ensures.1
    (subst (λ x. ReadsRow F O n before c.args.rest (Err x)) (sym e) (row_fails F O n before c.args.rest f why c.in_ok-terms.ensures.0 bad))

pub returns : goal.returns
returns g c =
    let F = g.F.Field.meaning c.args.ring.now.field in
    let O = g.O.Order.meaning c.args.ring.now.order in
    let n = c.args.ring.now.variables in
    let before = polys c.args.before.now in
    let f = vec_items c.in_ok-terms.terms in
    let (run, file) = c.in_ok-terms.ensures in
    row_found F O n before c.args.rest f _ _ run file (kept (ChecksRow F O n before f) _ _ _ c.map_err.ensures.cases c.check_row.ensures c.in_ok-row.was)
