use Rattle.std.proofs.Common.{◌≡◌, suc, drop, None}
use Rattle.polynomial.specs.Check.{faults}
use Rattle.polynomial.proofs.ring.Ring.check.Given as goal

abbrev pub invariant-loop-i : goal.invariant-loop-i
invariant-loop-i g l =
    faults (g.F.Field.meaning l.self.field) (g.O.Order.meaning l.self.order) l.self.variables None 1 l.terms
    ≡ faults (g.F.Field.meaning l.self.field) (g.O.Order.meaning l.self.order) l.self.variables l.before (suc l.i) (drop l.i l.terms)
