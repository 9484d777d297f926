use Rattle.std.proofs.Common.{vec_items, sym, ◌∙◌, rules}
use Rattle.std.proofs.lemmas.Iterator.{YieldsList-from_slice}
use Rattle.std.proofs.lemmas.Iterator.Search.{any_from_yields_List}
use borrow.Author.Tests.{tests}
use Rattle.monomial.specs.Monomial.{same}
use Rattle.polynomial.specs.Polynomial.{leading}
use Rattle.stored.proofs.Rowing.{among_any}
use Rattle.stored.proofs.rows.has_leader.Goals as goal

pub returns : goal.returns
returns c =
    let m = c.args.monomial.now.exponents in
    let rows = c.args.rows.now in
    any_from_yields_List (λ r. same (leading (vec_items r.terms)) m) _ _ c.any.result c.any.ensures.ran (YieldsList-from_slice rows cc) (λ x b q k. search (rules, tests)) ∙ sym (among_any m rows)
