use Rattle.std.proofs.Common.{◌-◌, get_or, rules}
use borrow.Author.Tests.{tests}
use Rattle.monomial.specs.Places.{quotient_from_differences}
use Rattle.monomial.proofs.Filling.{filled}
use Rattle.reduction.proofs.subtract.quotient.Goals as goal

pub returns : goal.returns
returns c =
    let m = c.args.m.now.exponents in
    let u = c.args.u.now.exponents in
    let p = c.from_fn.result in
    quotient_from_differences m u p (search rules) (search rules) (search rules) (filled _ _ p (λ i. get_or m i 0 - get_or u i 0) (λ i y q t. search (rules, tests)) 6 c.from_fn.ensures.items)
