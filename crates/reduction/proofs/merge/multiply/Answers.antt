use Rattle.std.proofs.Common.{◌+◌, min, get_or, rules}
use borrow.Author.Tests.{tests}
use Rattle.monomial.proofs.Filling.{filled}
use Rattle.reduction.proofs.Multiples.{capped_from_places}
use Rattle.reduction.proofs.merge.multiply.Goals as goal

pub returns : goal.returns
returns c =
    let a = c.args.a.now.exponents in
    let b = c.args.b.now.exponents in
    let p = c.from_fn.result in
    capped_from_places a b p (search rules) (search rules) (search rules) (filled _ _ p (λ i. min (get_or a i 0 + get_or b i 0) 255) (λ i y q t. search (rules, tests)) 6 c.from_fn.ensures.items)
