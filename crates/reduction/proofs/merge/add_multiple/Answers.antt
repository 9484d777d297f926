use Rattle.std.proofs.Common.{[], vec_items, arith}
use Rattle.polynomial.specs.Polynomial.{term, exponents}
use Rattle.reduction.specs.Merging.{image}
use Rattle.reduction.proofs.AddingUp.{failed, closed, turned_long}
use Rattle.reduction.proofs.merge.add_multiple.Goals as goal

pub returns-in_err-rest : goal.returns-in_err-rest
returns-in_err-rest g c =
    let F = g.F.Field.meaning c.args.ring.now.field in
    let O = g.O.Order.meaning c.args.ring.now.order in
    let I = image F c.args.factor.now.coefficient (exponents c.args.factor.now) in
    failed _ c.from_residual.result c.from_residual.ensures.0
    (turned_long F O I c.args.terms.now c.args.row.now c.loop-term.rest.now c.loop-term.term-index (vec_items c.loop-term.out.terms) c.loop-term.invariant
    c.image.result (term 0 []) (omega arith) c.image.ensures c.args.room.terms c.in_err-rest.ensures)

pub returns : goal.returns
returns g c =
    let F = g.F.Field.meaning c.args.ring.now.field in
    let O = g.O.Order.meaning c.args.ring.now.order in
    let I = image F c.args.factor.now.coefficient (exponents c.args.factor.now) in
    closed F O I c.args.terms.now c.args.row.now c.loop-term.rest.now c.loop-term.term-index (vec_items c.loop-term.out.terms) c.loop-term.invariant
    c.loop-term-test.false c.args.room.terms c.extend.result (vec_items c.extend.new.self.terms) c.extend.ensures
