use Rattle.monomial.specs.Divisions.{janet_groups, told}
use Rattle.monomial.proofs.janet.JanetDivision.multiplicative.Goals as goal

pub returns : goal.returns
returns c =
    told janet_groups c.args.list.now c.args.member c.args.variable c.in_ok-u.u c.is_largest.result c.in_ok-u.ensures.1 c.in_ok-u.ensures.0 c.is_largest.ensures
