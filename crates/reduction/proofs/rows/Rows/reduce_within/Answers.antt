use Rattle.std.proofs.Common.{◌≡◌, ◌+◌, [], refl, vec_items, sym, ap, subst, rules}
use Rattle.std.proofs.lemmas.List.{take_rest}
use Rattle.polynomial.specs.Polynomial.{Poly}
use Rattle.involutive.specs.Reduction.{Reduces, refused}
use Rattle.reduction.specs.Table.{table_of}
use Rattle.reduction.proofs.Standing.{over, Stands, begun, seen, used_up}
use Rattle.reduction.proofs.Turning.{finished, act, stop}
use Rattle.reduction.proofs.rows.Rows.reduce_within.Goals as goal

pub loop-init : goal.loop-init
loop-init g c =
    let x = c.args.self.now in
    let G = over (g.met.F.Field.laws x.ring.now.field) (g.met.O.Order.laws x.ring.now.order) x.ring.now.variables in
    let h = vec_items c.args.work.now.rest.terms in
    let a = c.requires.acceptable in
    let e : vec_items c.clear.new.self.terms ≡ [] = c.clear.ensures in
    subst (λ (y : Poly). Stands G (g.D.Division.meaning x.division.now) (table_of x.rows.now) c.args.room.terms h y h 0) (sym e) (begun G _ _ c.args.room.terms h a.written a.fits c.requires.room)

pub returns : goal.returns
returns g c =
    let x = c.args.self.now in
    let G = over (g.met.F.Field.laws x.ring.now.field) (g.met.O.Order.laws x.ring.now.order) x.ring.now.variables in
    record { comes = used_up G (g.D.Division.meaning x.division.now) (table_of x.rows.now) c.args.room.terms c.loop.invariant c.loop-test.false; nothing = tt }

pub returns-in-None : goal.returns-in-None
returns-in-None g c =
    let x = c.args.self.now in
    let D = g.D.Division.meaning x.division.now in
    let G = over (g.met.F.Field.laws x.ring.now.field) (g.met.O.Order.laws x.ring.now.order) x.ring.now.variables in
    let st = seen G D (table_of x.rows.now) c.args.room.terms c.as_slice-terms.result.now c.as_slice-terms.ensures.value c.loop.invariant in
    record {
      comes = finished G D x.rows.now x.agrees c.args.room.terms st c.in-None.ensures c.extend.result (vec_items c.extend.new.self.terms) c.extend.ensures;
      nothing = tt;
    }

pub returns-in-Err : goal.returns-in-Err
returns-in-Err g c =
    let x = c.args.self.now in
    let D = g.D.Division.meaning x.division.now in
    let G = over (g.met.F.Field.laws x.ring.now.field) (g.met.O.Order.laws x.ring.now.order) x.ring.now.variables in
    let xs = c.as_slice-terms.result.now in
    let room = c.args.room.terms in
    let st = seen G D (table_of x.rows.now) room xs c.as_slice-terms.ensures.value c.loop.invariant in
    let R = stop G D x.rows.now x.agrees room st c.in-Some.i c.in-Some.k c.in-Some.ensures c.index-table-k.result c.index-table-k.is
    c.extend-in-Some.result (vec_items c.extend-in-Some.new.self.terms) c.extend-in-Some.ensures
    c.after-free.result.terms (search rules) _ (take_rest xs (c.in-Some.i + 1)) c.cancel.result c.in-Err.reason _ c.in-Err.is c.cancel.ensures in
    record {
      comes = subst (λ r. Reduces G.field G.order D G.variables (table_of x.rows.now) room (vec_items c.args.work.now.rest.terms) (refused r)) (sym c.at_row.ensures) R;
      nothing = c.clear-in-Err.ensures;
    }

pub loop-preserved : goal.loop-preserved
loop-preserved g c =
    let x = c.args.self.now in
    let D = g.D.Division.meaning x.division.now in
    let G = over (g.met.F.Field.laws x.ring.now.field) (g.met.O.Order.laws x.ring.now.order) x.ring.now.variables in
    let xs = c.as_slice-terms.result.now in
    let room = c.args.room.terms in
    let st = seen G D (table_of x.rows.now) room xs c.as_slice-terms.ensures.value c.loop.invariant in
    act G D x.rows.now x.agrees room st c.in-Some.i c.in-Some.k c.in-Some.ensures c.index-table-k.result c.index-table-k.is
    c.extend-in-Some.result (vec_items c.extend-in-Some.new.self.terms) c.extend-in-Some.ensures
    c.after-free.result.terms (search rules) _ (take_rest xs (c.in-Some.i + 1)) c.cancel.result _ (vec_items c.swap.new.x.terms) c.in_default.is (ap (λ y. vec_items y.terms) c.swap.ensures.x_after) c.cancel.ensures
