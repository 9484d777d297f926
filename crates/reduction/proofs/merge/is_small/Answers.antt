use Rattle.std.proofs.Common.{◌+◌, min, leb, rules, ◌∙◌}
use Rattle.std.proofs.lemmas.Iterator.{YieldsList-from_slice, YieldsList-from_zip}
use Rattle.std.proofs.lemmas.Iterator.Search.{all_from_yields_List}
use borrow.Author.Tests.{tests}
use Rattle.reduction.proofs.Multiples.{zip_small}
use Rattle.reduction.proofs.merge.is_small.Goals as goal

pub returns : goal.returns
returns c =
    let u = c.args.a.now.exponents in
    let m = c.args.b.now.exponents in
    all_from_yields_List (λ p. leb (min (p.0 + p.1) 255) 40) c.all.new.self _ c.all.result c.all.ensures.ran (YieldsList-from_zip (YieldsList-from_slice u cc) (YieldsList-from_slice m cc)) (λ x b q k. search (rules, tests))
    ∙ zip_small u m
