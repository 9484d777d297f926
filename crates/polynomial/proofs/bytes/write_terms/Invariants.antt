use Rattle.std.proofs.Common.{◌≡◌, ◌*◌, ◌++◌, length, take, drop}
use Rattle.polynomial.specs.Bytes.{poly_bytes}
use Rattle.polynomial.proofs.bytes.write_terms.Given as goal

abbrev pub invariant-loop-i : goal.invariant-loop-i
invariant-loop-i l = (l.out ≡ poly_bytes (take l.i l.terms) ++ drop (l.i * 9) l.initial.out) × (length (poly_bytes (take l.i l.terms)) ≡ l.i * 9)
