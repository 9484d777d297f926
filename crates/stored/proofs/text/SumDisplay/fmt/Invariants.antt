use Rattle.std.proofs.Common.{drop}
use Rattle.std.specs.Fmt.{IsPlainFormatter}
use Rattle.stored.specs.Text.{behind_text}
use Rattle.stored.proofs.Writing.{HasLeft}
use Rattle.stored.proofs.text.SumDisplay.fmt.Given as goal

abbrev pub invariant-loop-term : goal.invariant-loop-term
invariant-loop-term g l =
    IsPlainFormatter l.initial.f → HasLeft g.W.Write.write_str_gives l.initial.f (behind_text l.behind) (behind_text (drop l.term-index l.behind)) l.f
