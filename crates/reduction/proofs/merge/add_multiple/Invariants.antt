use Rattle.std.proofs.Common.{◌++◌, map, drop, vec_items}
use Rattle.polynomial.specs.Polynomial.{Poly, exponents}
use Rattle.reduction.specs.Merging.{Sums, image}
use Rattle.reduction.proofs.merge.add_multiple.Given as goal

-- whatever the rest comes to, behind what is written, is the whole
abbrev pub invariant-loop-term : goal.invariant-loop-term
invariant-loop-term g l =
    let F = g.F.Field.meaning l.ring.field in
    let O = g.O.Order.meaning l.ring.order in
    let I = image F l.factor.coefficient (exponents l.factor) in
    (r : Poly) → Sums F O l.rest (map I (drop l.term-index l.row)) r → Sums F O l.terms (map I l.row) (vec_items l.out.terms ++ r)
