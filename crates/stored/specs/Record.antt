-- Words of the crate's own functions; no public contract cites them.
use Rattle.std.specs.Prelude.{◌≡◌, ℕ, ◌+◌, ◌^◌, ◌<◌, ◌∷◌, length, Ok, Err, vec_items, Result, Vec}
use Rattle.std.specs.declared.alloc.Global.{Global}
use Rattle.polynomial.specs.declared.bytes.NoRun.{NoRun}
use Rattle.polynomial.specs.declared.bytes.NoRun.TheVariants.{Cut, Memory as NoMemory}
use Rattle.polynomial.specs.declared.term.Term.{Term}
use Rattle.polynomial.specs.Reading.{IsRun}
use Rattle.stored.specs.declared.fault.Fault.{Fault}
use Rattle.stored.specs.declared.fault.Fault.TheVariants.{Bad, Memory}
use Rattle.stored.specs.declared.fault.Reason.TheVariants.{CutTerm}
use Rattle.stored.specs.declared.rest.Rest.{Rest}
use Rattle.stored.specs.Stored.{NoRecord}

-- how long the file is whose rest this is
abbrev pub file_length : Rest → ℕ
file_length rest = rest.offset + length rest.bytes.now

-- the offset of a cut term is a number of the program
abbrev pub WithinFile : NoRun → ℕ → Type 0
WithinFile (Cut k) offset = offset + k < 2 ^ 64
WithinFile NoMemory offset = Unit {0}

abbrev pub fault_of : NoRun → ℕ → Fault
fault_of (Cut k) offset = Bad CutTerm (offset + k)
fault_of NoMemory offset = Memory

-- the record at the front
abbrev pub ReadsRecord : Rest → Result (Vec Term Global × Rest) Fault → Type 0
ReadsRecord rest (Ok found) = IsRun rest.bytes.now (vec_items found.0) (2 ∷ found.1.bytes.now) × (file_length found.1 ≡ file_length rest)
ReadsRecord rest (Err (Bad why at)) = (k : ℕ) × (at ≡ rest.offset + k) × NoRecord rest.bytes.now why k
ReadsRecord rest (Err Memory) = Unit {0}
