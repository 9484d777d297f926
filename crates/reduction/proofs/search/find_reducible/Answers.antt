use Rattle.std.proofs.Common.{sym, subst, arith, below_more}
use Rattle.reduction.specs.Search.{Finds}
use Rattle.reduction.proofs.search.find_reducible.Goals as goal

pub search-preserved : goal.search-preserved
search-preserved c =
    let i = c.row.invariant in
    (i.0, below_more _ _ i.1 (λ j h. i.2 j (omega arith)))

pub returns-after-search : goal.returns-after-search
returns-after-search c = subst (Finds c.args.table.now c.args.terms.now) (sym c.search.invariant.0) (λ i h. c.search.invariant.1 i (omega arith))
