use Rattle.std.proofs.Common.{arith, rules}
use Rattle.std.proofs.lemmas.Iterator.{YieldsList-from_slice}
use Rattle.std.proofs.lemmas.Iterator.Adapters.{fits_from_length, at_most_from_yields_List}
use borrow.Author.Tests.{tests}
use Rattle.monomial.proofs.Monomial.degree.Goals as goal

pub sum-requires-clause-fits : goal.sum-requires-clause-fits
sum-requires-clause-fits c =
    fits_from_length _ _ 6 _ (at_most_from_yields_List (YieldsList-from_slice c.args.self.now.exponents cc) (omega arith)) c.map.ensures.closure (omega arith) (λ x r q k. search (rules, tests))
