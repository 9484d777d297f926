use Rattle.involutive.specs.Sheet.{Setting, Lawful}
use Rattle.involutive.proofs.OneReduction
use Rattle.reduction.specs.Table.{setting, table_of}
use Rattle.reduction.proofs.rows.Rows.one_outcome.Goals as goal

pub returns : goal.returns
returns g c room h o p w a b =
    let x = c.args.self.now in
    let S : Setting = setting (g.F.Field.meaning x.ring.now.field) (g.O.Order.meaning x.ring.now.order) (g.D.Division.meaning x.division.now) x.ring.now.variables in
    let W : Lawful S = record { field = g.met.F.Field.laws x.ring.now.field; order = g.met.O.Order.laws x.ring.now.order; division = g.met.D.Division.laws x.division.now; variables = (x.some, x.few) } in
    OneReduction.reduces_one S W (table_of x.rows.now) x.agrees.distinct {room = room} {h = h} {o = o} {o' = p} a w b
