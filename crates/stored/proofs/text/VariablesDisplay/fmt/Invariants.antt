use Rattle.std.proofs.Common.{suc, ◌-◌, []}
use denote.Shadow.{shadow}
use denote.Text.{Utf8}
use Rattle.std.specs.Fmt.{IsPlainFormatter}
use Rattle.monomial.specs.Lists.{exponents_of}
use Rattle.stored.specs.Text.{is_multiplicative, variables_text}
use Rattle.stored.proofs.Writing.{HasLeft}
use Rattle.stored.proofs.text.VariablesDisplay.fmt.Given as goal

abbrev pub invariant-loop-number : goal.invariant-loop-number
invariant-loop-number g l =
    let table = l.self.table.now in
    let n = table.operands.variables in
    let test = is_multiplicative (g.D.Division.meaning table.division.now) (exponents_of table.leaders.now) l.self.row in
    record {
      utf8 : shadow (Utf8 l.mark);
      left : IsPlainFormatter l.initial.f → HasLeft g.W.Write.write_str_gives l.initial.f (variables_text test 1 [] n) (variables_text test l.number-counter l.mark (suc n - l.number-counter)) l.f;
    }
