-- Words of the crate's own functions; no public contract cites them.
use Rattle.std.specs.Prelude.{◌≡◌, ℕ, List, Ok, Err, string_bytes, Result, String}
use Rattle.std.specs.declared.alloc.Global.{Global}
use Rattle.polynomial.specs.Polynomial.{Poly}
use Rattle.stored.specs.declared.fault.Fault.{Fault}
use Rattle.stored.specs.declared.fault.Fault.TheVariants.{Bad, Memory}
use Rattle.stored.specs.Stored.{Outcome, bad, rows}

-- the text of the rows that reading comes to, or its fault
abbrev pub Tells : (Outcome → Type 0) → (List Poly → List ℕ) → Result (String Global) Fault → Type 0
Tells comes tells (Ok s) = (fs : List Poly) × comes (rows fs) × (string_bytes s ≡ tells fs)
Tells comes tells (Err (Bad why at)) = comes (bad why at)
Tells comes tells (Err Memory) = Unit {0}
