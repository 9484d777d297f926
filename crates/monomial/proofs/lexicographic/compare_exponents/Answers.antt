use Rattle.std.proofs.Common.{◌≡◌, ◌∙◌, length, rules}
use Rattle.monomial.proofs.Comparing.{compared}
use Rattle.monomial.proofs.lexicographic.compare_exponents.Goals as goal

pub returns : goal.returns
returns c =
    let e : length c.args.a.now.exponents ≡ length c.args.b.now.exponents = search rules in
    c.cmp.ensures ∙ compared c.args.a.now.exponents c.args.b.now.exponents e
