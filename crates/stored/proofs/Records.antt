-- Reading one record.
use Rattle.std.proofs.Common.{◌≡◌, ℕ, ◌-◌, ◌≤◌, List, [], ◌∷◌, length, get_or, Err, refl, subst, arith}
use Rattle.polynomial.specs.declared.bytes.NoRun.{NoRun}
use Rattle.polynomial.specs.declared.bytes.NoRun.TheVariants.{Cut, Memory as NoMemory}
use Rattle.polynomial.specs.Polynomial.{Poly}
use Rattle.polynomial.specs.Reading.{IsRun, ReadsRun}
use Rattle.stored.specs.declared.rest.Rest.{Rest}
use Rattle.stored.specs.declared.fault.Reason.TheVariants.{OpenRecord, OtherByte}
use Rattle.stored.specs.Stored.{NoRecord, cut, open_end, other}
use Rattle.stored.specs.Record.{ReadsRecord, fault_of}

pub no_run : (rest : Rest) (why : NoRun) → ReadsRun rest.bytes.now (Err why) → ReadsRecord rest (Err (fault_of why rest.offset))
no_run rest (Cut k) h = (k, refl, cut h)
no_run rest NoMemory h = tt

pub open_run : (bytes rest : List ℕ) (f : Poly) → IsRun bytes f rest → length rest ≤ 0 → NoRecord bytes OpenRecord (length bytes - length rest)
open_run bytes [] f h l = let e : length bytes ≡ length bytes - 0 = omega arith in subst (NoRecord bytes OpenRecord) e (open_end h)
open_run bytes (x ∷ rest) f h l = absurd (omega arith)

pub other_run : (bytes rest : List ℕ) (f : Poly) → IsRun bytes f rest → 1 ≤ length rest → (get_or rest 0 0 ≡ 2 → ⊥) → NoRecord bytes OtherByte (length bytes - length rest)
other_run bytes [] f h l n = absurd (omega arith)
other_run bytes (x ∷ rest) f h l n = other h n
