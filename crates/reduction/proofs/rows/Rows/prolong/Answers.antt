use Rattle.std.proofs.Common.{vec_items}
use Rattle.reduction.proofs.Prolonging.{prolonged_row}
use Rattle.reduction.proofs.rows.Rows.prolong.Goals as goal

pub returns : goal.returns
returns g c =
    let x = c.args.self.now in
    let n = x.ring.now.variables in
    prolonged_row (g.F.Field.meaning x.ring.now.field) (g.O.Order.meaning x.ring.now.order) (g.D.Division.meaning x.division.now) n x.rows.now x.agrees c.args.k c.args.v c.requires.row c.index-self-k.result c.index-self-k.is c.scale.result (vec_items c.scale.new.out.terms) c.as_slice.result.now c.variable.result.exponents c.as_slice.ensures.value c.variable.ensures (g.met.F.Field.laws x.ring.now.field).differ (c.scale.ensures.value n)
