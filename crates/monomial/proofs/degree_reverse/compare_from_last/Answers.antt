use Rattle.std.proofs.Common.{◌∙◌, ap₂, rules}
use Rattle.std.specs.Ordering.{nat_cmp}
use Rattle.monomial.specs.Monomial.{Wide}
use Rattle.monomial.proofs.Comparing.{spelled_turned}
use Rattle.monomial.proofs.degree_reverse.compare_from_last.Goals as goal

pub returns : goal.returns
returns c =
    let a = c.args.a.now.exponents in
    let b = c.args.b.now.exponents in
    let wa : Wide a = search rules in
    let wb : Wide b = search rules in
    c.cmp.ensures ∙ ap₂ nat_cmp c.spell_from_last.ensures.number c.spell_from_last-2.ensures.number ∙ spelled_turned a b wa wb c.spell_from_last-2.ensures.digits c.spell_from_last.ensures.digits
