use Rattle.std.proofs.Common.{◌∙◌, not, ◌||◌, leb, rules}
use Rattle.std.proofs.lemmas.Iterator.{YieldsList-from_slice}
use Rattle.std.proofs.lemmas.Iterator.Search.{all_from_yields_List}
use borrow.Author.Tests.{tests}
use Rattle.monomial.specs.Monomial.{exponent}
use Rattle.monomial.specs.Division.{agrees}
use Rattle.monomial.proofs.Agreeing.{all_largest}
use Rattle.monomial.proofs.division.is_largest.Goals as goal

pub returns : goal.returns
returns c =
    let u = c.args.u.now.exponents in
    all_from_yields_List (λ w. leb (exponent w.exponents c.args.variable) (exponent u c.args.variable) || not (agrees c.args.before u w.exponents)) _ _ c.all.result c.all.ensures.ran (YieldsList-from_slice c.args.list.now cc) (λ x b q k. search (rules, tests))
    ∙ all_largest (agrees c.args.before u) c.args.variable u c.args.list.now
