use Rattle.std.proofs.Common.{◌≡◌, map, take, vec_items}
use Rattle.polynomial.specs.Polynomial.{exponents}
use Rattle.reduction.specs.Merging.{image}
use Rattle.reduction.proofs.scale.scale.Given as goal

abbrev pub invariant-loop-term : goal.invariant-loop-term
invariant-loop-term g l = vec_items l.out.terms ≡ map (image (g.F.Field.meaning l.field) l.factor.coefficient (exponents l.factor)) (take l.term-index l.terms)
