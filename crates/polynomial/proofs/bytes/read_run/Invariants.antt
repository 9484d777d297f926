use Rattle.std.proofs.Common.{◌≡◌, ◌++◌, length, vec_items}
use Rattle.polynomial.specs.Bytes.{poly_bytes}
use Rattle.polynomial.specs.Reading.{Wides}
use Rattle.polynomial.proofs.bytes.read_run.Given as goal

abbrev pub invariant-loop-terms : goal.invariant-loop-terms
invariant-loop-terms l = Wides (vec_items l.terms) × (l.input ≡ poly_bytes (vec_items l.terms) ++ l.rest)

abbrev pub decreases-loop-terms : goal.decreases-loop-terms
decreases-loop-terms l = length l.rest
