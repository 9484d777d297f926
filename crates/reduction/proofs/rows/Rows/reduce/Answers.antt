use Rattle.std.proofs.Common.{◌≡◌, Err, vec_items, sym, ap, ◌∙◌, rules}
use borrow.Author.Tests.{tests}
use Rattle.polynomial.specs.Check.{fault}
use Rattle.polynomial.proofs.Checking.{refused, acceptable_from}
use Rattle.reduction.specs.declared.refusal.Denied.TheVariants.{Polynomial}
use Rattle.reduction.specs.Reducing.{unfit, fit}
use Rattle.reduction.proofs.Loading.{faultless, loaded}
use Rattle.reduction.proofs.Renaming.{renamed, unrefused}
use Rattle.reduction.proofs.rows.Rows.reduce.Goals as goal

pub returns-in_err-map_err : goal.returns-in_err-map_err
returns-in_err-map_err g c =
    let x = c.args.self.now.ring.now in
    let d = c.in_err-map_err.field-0.0 in
    let e = renamed c.check.result c.map_err.result _ c.map_err.ensures.cases d c.in_err-map_err.was in
    let q = refused (g.F.Field.meaning x.field) (g.O.Order.meaning x.order) x.variables (fault (g.F.Field.meaning x.field) (g.O.Order.meaning x.order) x.variables c.args.f.now) e.0 (sym c.check.ensures.first ∙ e.1) in
    let p = e.2 in
    let is : d ≡ Polynomial e.0 = search (rules, tests) in
    let y : c.from_residual.result ≡ Err d = search rules in
    let z : c.from_residual.result ≡ Err (Polynomial e.0) = y ∙ ap Err is in
    let n : vec_items c.clear.new.self.terms ≡ _ = c.clear.ensures in
    rw (z, n) (unfit (sym q))

pub reduce_within-requires : goal.reduce_within-requires
reduce_within-requires g c =
    let x = c.args.self.now.ring.now in
    let n = faultless (g.F.Field.meaning x.field) (g.O.Order.meaning x.order) x.variables c.args.f.now c.check.result c.check.ensures.first (unrefused c.check.result c.map_err.result _ c.map_err.ensures.cases c.in_ok-map_err.field-0 c.in_ok-map_err.was) in
    let a = acceptable_from (g.F.Field.meaning x.field) (g.O.Order.meaning x.order) x.variables c.args.f.now n in
    rw (loaded c.args.f.now _ (vec_items c.load.new.self.rest.terms) c.load.result a.short c.load.ensures) (record { acceptable = a; room = a.short })

pub returns : goal.returns
returns g c =
    let x = c.args.self.now.ring.now in
    let n = faultless (g.F.Field.meaning x.field) (g.O.Order.meaning x.order) x.variables c.args.f.now c.check.result c.check.ensures.first (unrefused c.check.result c.map_err.result _ c.map_err.ensures.cases c.in_ok-map_err.field-0 c.in_ok-map_err.was) in
    let a = acceptable_from (g.F.Field.meaning x.field) (g.O.Order.meaning x.order) x.variables c.args.f.now n in
    fit n (rw (loaded c.args.f.now _ (vec_items c.load.new.self.rest.terms) c.load.result a.short c.load.ensures) at c.reduce_within.ensures)
