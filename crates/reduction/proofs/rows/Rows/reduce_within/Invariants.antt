use Rattle.std.proofs.Common.{vec_items}
use Rattle.reduction.specs.Table.{table_of}
use Rattle.reduction.proofs.Standing.{over, Stands}
use Rattle.reduction.proofs.rows.Rows.reduce_within.Given as goal

abbrev pub invariant-loop : goal.invariant-loop
invariant-loop g l =
    let G = over (g.met.F.Field.laws l.self.ring.now.field) (g.met.O.Order.laws l.self.ring.now.order) l.self.ring.now.variables in
    Stands G (g.D.Division.meaning l.self.division.now) (table_of l.self.rows.now) l.room.terms (vec_items l.initial.rest.terms) (vec_items l.done.terms) (vec_items l.rest.terms) l.counter
