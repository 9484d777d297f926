use Rattle.std.proofs.Common.{vec_items, arith}
use Rattle.involutive.specs.Sheet.{Lawful}
use Rattle.reduction.specs.Table.{setting}
use Rattle.sheet.specs.Marks.{rows_of}
use Rattle.sheet.proofs.Beginning.{begins}
use Rattle.sheet.proofs.sheet.Sheet.new.Goals as goal

pub returns : goal.returns
returns g c =
    let x = c.args.ring in
    let S = setting (g.F.Field.meaning x.field) (g.O.Order.meaning x.order) (g.D.Division.meaning c.args.division) x.variables in
    let W : Lawful S = record { field = g.met.F.Field.laws x.field; order = g.met.O.Order.laws x.order; division = g.met.D.Division.laws c.args.division; variables = (omega arith, omega arith) } in
    record { made = begins S W (vec_items c.in_ok-table.table.rows) (rows_of c.none.result) c.in_ok-table.ensures c.none.ensures }

pub invariant_of-result-clause-sound : goal.invariant_of-result-clause-sound
invariant_of-result-clause-sound g c =
    let x = c.args.ring in
    let S = setting (g.F.Field.meaning x.field) (g.O.Order.meaning x.order) (g.D.Division.meaning c.args.division) x.variables in
    let W : Lawful S = record { field = g.met.F.Field.laws x.field; order = g.met.O.Order.laws x.order; division = g.met.D.Division.laws c.args.division; variables = (omega arith, omega arith) } in
    ∣ (begins S W (vec_items c.in_ok-table.table.rows) (rows_of c.none.result) c.in_ok-table.ensures c.none.ensures).sound ∣₁
