use Rattle.std.proofs.Common.{◌≡◌, ◌+◌, ◌*◌, ◌≤◌, ◌++◌, take, vec_items, vec_len, vec_capacity}
use Rattle.polynomial.specs.Bytes.{poly_bytes}
use Rattle.sheet.specs.Copying.{copy_room}
use Rattle.sheet.proofs.copy.CopyBytes.push_terms.Given as goal

abbrev pub invariant-loop-term : goal.invariant-loop-term
invariant-loop-term l = (vec_len l.self.written ≡ vec_len l.initial.self.written + l.term-index * 9) × (copy_room ≤ vec_capacity l.self.written) × (vec_items l.self.written ≡ vec_items l.initial.self.written ++ poly_bytes (take l.term-index l.terms))
