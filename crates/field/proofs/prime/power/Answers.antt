use Rattle.std.proofs.Common.{◌≡◌, ◌*◌, ◌/◌, ◌%◌, ◌^◌, ◌<◌, mod-lt, arith}
use Rattle.field.specs.Remainders.{even_turn, odd_turn}
use Rattle.field.proofs.prime.power.Goals as goal
use Rattle.field.proofs.prime.power.Goals.{then-left-eq1, else-left-eq1}

pub loop-left-preserved : goal.loop-left-preserved
loop-left-preserved c =
    let r = c.loop-left.answer in
    let s = c.loop-left.square in
    let n = c.loop-left.left in
    let p = c.args.p in
    let pos : 0 < p = omega arith in
    let below : c.if-left-eq1.answer < p = elim c.if-left-eq1.branch [
      | then-left-eq1 w ↦ (let m = mod-lt (r * s) pos in omega (arith, w.answer-is))
      | else-left-eq1 w ↦ omega (arith, w.answer-is)
    ] in
    let turn : (c.if-left-eq1.answer * ((s * s) % p) ^ (n / 2)) % p ≡ (r * s ^ n) % p = elim c.if-left-eq1.branch [
      | then-left-eq1 w ↦ (let t = odd_turn r s n p (omega (arith, w.if-left-eq1.true)) in cc (t, w.answer-is))
      | else-left-eq1 w ↦ (let t = even_turn r s n p (omega (arith, w.if-left-eq1.false)) in cc (t, w.answer-is))
    ] in
    (below, mod-lt _ pos, omega (arith, turn, c.loop-left.invariant.2))
