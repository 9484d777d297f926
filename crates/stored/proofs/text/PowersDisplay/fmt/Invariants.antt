use Rattle.std.proofs.Common.{suc, drop}
use denote.Shadow.{shadow}
use denote.Text.{Utf8}
use Rattle.std.specs.Fmt.{IsPlainFormatter}
use Rattle.stored.specs.Text.{powers_text}
use Rattle.stored.proofs.Writing.{HasLeft}
use Rattle.stored.proofs.text.PowersDisplay.fmt.Given as goal

abbrev pub invariant-loop-i : goal.invariant-loop-i
invariant-loop-i g l = record {
  utf8 : shadow (Utf8 l.mark);
  left : IsPlainFormatter l.initial.f → HasLeft g.W.Write.write_str_gives l.initial.f (powers_text 1 l.self.mark.now l.self.exponents.now) (powers_text (suc l.i) l.mark (drop l.i l.self.exponents.now)) l.f;
}
