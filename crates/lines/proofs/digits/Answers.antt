use Rattle.std.proofs.Common.{◌≡◌, ◌*◌, length, take, arith}
use Rattle.lines.specs.Line.{hexed}
use Rattle.lines.proofs.Hexadecimal.{digits_all, hexed_text}
use Rattle.lines.proofs.digits.Goals as goal

pub unreachable-requires : goal.unreachable-requires
unreachable-requires c =
    let bytes = c.args.bytes.now in
    let all : take (2 * length bytes) c.loop-i.buffer ≡ hexed bytes = digits_all bytes c.loop-i.buffer c.loop-i.i (omega arith) c.loop-i.invariant in
    c.in_default.ensures.cases.0 (rw all (hexed_text bytes (λ i. let fits = c.type_inv.bytes i in omega arith)))
