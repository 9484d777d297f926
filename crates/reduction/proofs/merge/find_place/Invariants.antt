use Rattle.reduction.specs.Merging.{Above}
use Rattle.reduction.proofs.merge.find_place.Given as goal

abbrev pub invariant-loop-at : goal.invariant-loop-at
invariant-loop-at g l = Above (g.O.Order.meaning l.order) l.other l.terms l.at
