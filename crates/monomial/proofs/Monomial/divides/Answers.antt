use Rattle.std.proofs.Common.{◌≡◌, leb, length, ◌∙◌, sym, rules}
use Rattle.std.proofs.lemmas.Iterator.{YieldsList-from_slice, YieldsList-from_zip}
use Rattle.std.proofs.lemmas.Iterator.Search.{all_from_yields_List}
use borrow.Author.Tests.{tests}
use Rattle.monomial.specs.Places.{zip_divides}
use Rattle.monomial.proofs.Monomial.divides.Goals as goal

pub returns : goal.returns
returns c =
    let u = c.args.self.now.exponents in
    let m = c.args.other.now.exponents in
    let e : length u ≡ length m = search rules in
    let all = all_from_yields_List (λ p. leb p.0 p.1) c.all.new.self _ c.all.result c.all.ensures.ran (YieldsList-from_zip (YieldsList-from_slice u cc) (YieldsList-from_slice m cc)) (λ x b q k. search (rules, tests)) in
    let both = zip_divides u m e in
    (λ t. both.0 (sym all ∙ t), λ d. all ∙ both.1 d)
