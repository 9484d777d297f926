use Rattle.std.proofs.Common.{suc, drop}
use Rattle.std.specs.Fmt.{IsPlainFormatter}
use Rattle.monomial.specs.Lists.{exponents_of}
use Rattle.stored.specs.Rows.{polys}
use Rattle.stored.specs.Text.{rows_text}
use Rattle.stored.proofs.Writing.{HasLeft}
use Rattle.stored.proofs.text.TableDisplay.fmt.Given as goal

abbrev pub invariant-loop-i : goal.invariant-loop-i
invariant-loop-i g l =
    let D = g.D.Division.meaning l.self.division.now in
    let U = exponents_of l.self.leaders.now in
    let n = l.self.operands.variables in
    IsPlainFormatter l.initial.f
    → HasLeft g.W.Write.write_str_gives l.initial.f (rows_text D U n 1 (polys l.self.rows.now)) (rows_text D U n (suc l.i) (polys (drop l.i l.self.rows.now))) l.f
