use Rattle.std.proofs.Common.{rules}
use borrow.Author.Tests.{tests}
use Rattle.std.proofs.lemmas.Iterator.{cases_from_all, YieldsList-from_slice}
use Rattle.std.proofs.lemmas.Iterator.Consumers.{YieldsList-from_enumerate}
use Rattle.sheet.specs.Rows.{lead_of}
use Rattle.sheet.proofs.Selections.{Passes, Fails, minimal_from_all}
use Rattle.sheet.proofs.select.is_minimal.Goals as goal

pub returns : goal.returns
returns c =
    let rows = c.args.rows.now in
    let own = lead_of c.index-rows-k.result in
    minimal_from_all rows c.args.k c.requires c.index-rows-k.result c.index-rows-k.is c.all.result (cases_from_all _ _ c.all.result (Passes c.args.k own) (Fails c.args.k own) c.all.ensures.ran (YieldsList-from_enumerate (YieldsList-from_slice rows cc) cc) (λ x q k. search (rules, tests)) (λ x q k. search (rules, tests)))
