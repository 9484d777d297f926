use Rattle.std.proofs.Common.{rules}
use Rattle.stored.proofs.Texts.{power_skipped, power_written}
use Rattle.stored.proofs.text.PowersDisplay.fmt.Goals as goal
use Rattle.stored.proofs.text.PowersDisplay.fmt.Goals.{then-exponent-gt0+in_ok-write, else-exponent-gt0}

pub loop-i-preserved : goal.loop-i-preserved
loop-i-preserved g c = record {
  utf8 = elim c.if-exponent-gt0.branch [ then-exponent-gt0+in_ok-write w ↦ search rules | else-exponent-gt0 w ↦ search rules ];
  left = λ p.
      let m = c.args.self.now.exponents.now in
      let i = c.loop-i.i in
      let mark = c.loop-i.mark.now in
      let left = c.loop-i.invariant.left p in
      let plain = left.written.plain in
      elim c.if-exponent-gt0.branch [
        | then-exponent-gt0+in_ok-write w ↦ rw (w.mark-is, w.f-is) (power_written m i mark c.loop-i-test.true w.if-exponent-gt0.true left (search rules))
        | else-exponent-gt0 w ↦ rw (w.mark-is, w.f-is) (power_skipped m i mark c.loop-i-test.true w.if-exponent-gt0.false left)
      ];
}
