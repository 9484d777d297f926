use Rattle.std.proofs.Common.{take}
use Rattle.std.specs.Fmt.{HasWritten, IsPlainFormatter}
use Rattle.polynomial.specs.Bytes.{poly_bytes}
use Rattle.lines.specs.Line.{hexed}
use Rattle.lines.proofs.HexTermsDisplay.fmt.Given as goal

abbrev pub invariant-loop-term : goal.invariant-loop-term
invariant-loop-term g l =
    IsPlainFormatter l.initial.f → HasWritten g.W.Write.write_str_gives l.initial.f (hexed (poly_bytes (take l.term-index l.self.0.now))) l.f
