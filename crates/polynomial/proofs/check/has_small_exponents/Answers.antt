use Rattle.std.proofs.Common.{◌≡◌, ◌-◌, leb, ap, ◌∙◌, arith, rules}
use Rattle.std.proofs.lemmas.Iterator.{YieldsList-from_slice}
use Rattle.std.proofs.lemmas.Iterator.Consumers.{YieldsList-from_enumerate}
use Rattle.std.proofs.lemmas.Iterator.Search.{all_from_yields_List}
use borrow.Author.Tests.{tests}
use Rattle.polynomial.specs.Check.{small_exponents}
use Rattle.polynomial.proofs.Checking.{limit, all_small}
use Rattle.polynomial.proofs.check.has_small_exponents.Goals as goal

pub returns-clause-small : goal.returns-clause-small
returns-clause-small c =
    let m = c.args.monomial.now.exponents in
    let n : c.args.variables - 0 ≡ c.args.variables = omega arith in
    all_from_yields_List (λ p. leb p.1 (limit c.args.variables p.0)) c.all.new.self _ c.all.result c.all.ensures.ran (YieldsList-from_enumerate (YieldsList-from_slice m cc) cc) (λ x b q k. search (rules, tests))
    ∙ all_small c.args.variables 0 m ∙ ap (λ k. small_exponents k m) n
