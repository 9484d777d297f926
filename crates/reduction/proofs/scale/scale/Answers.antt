use Rattle.std.proofs.Common.{◌≡◌, map, vec_items, sym, ap, ◌∙◌, arith}
use Rattle.std.proofs.lemmas.List.{take_all}
use Rattle.polynomial.specs.Polynomial.{exponents}
use Rattle.reduction.specs.Merging.{image}
use Rattle.reduction.proofs.Multiples.{fits_yes, fits_no, images}
use Rattle.reduction.proofs.scale.scale.Goals as goal

pub returns-then-not-fits-clause-value : goal.returns-then-not-fits-clause-value
returns-then-not-fits-clause-value g c n o p =
    (omega arith, fits_no (g.F.Field.meaning c.args.field.now) c.args.factor.now.coefficient (exponents c.args.factor.now) c.args.terms.now (sym c.if-not-fits.ensures))

pub returns-clause-value : goal.returns-clause-value
returns-clause-value g c n o p =
    let F = g.F.Field.meaning c.args.field.now in
    let a = exponents c.args.factor.now in
    let f = c.args.terms.now in
    let small = sym c.if-not-fits.ensures in
    let whole : vec_items c.loop-term.out.terms ≡ map (image F c.args.factor.now.coefficient a) f = c.loop-term.invariant ∙ ap (map (image F c.args.factor.now.coefficient a)) (take_all c.loop-term.term-index f (omega arith)) in
    (fits_yes F c.args.factor.now.coefficient a f small, whole ∙ images F (g.met.F.Field.laws c.args.field.now) n c.args.factor.now.coefficient a f p o small)

pub returns-clause-exact : goal.returns-clause-exact
returns-clause-exact g c =
    let F = g.F.Field.meaning c.args.field.now in
    let a = exponents c.args.factor.now in
    let f = c.args.terms.now in
    let whole : vec_items c.loop-term.out.terms ≡ map (image F c.args.factor.now.coefficient a) f = c.loop-term.invariant ∙ ap (map (image F c.args.factor.now.coefficient a)) (take_all c.loop-term.term-index f (omega arith)) in
    (omega arith, sym c.if-not-fits.ensures, whole)
