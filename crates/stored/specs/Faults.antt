-- What is wrong with a stored table, in words.
use Rattle.std.specs.Prelude.{ℕ, List, ◌++◌, codes, decimal}
use Rattle.choice.specs.declared.unnamed.Unnamed.{Unnamed}
use Rattle.choice.specs.declared.unnamed.Unnamed.TheVariants.{Field, Variables, Order, Division}
use Rattle.choice.specs.Unnamed.{unnamed_text}
use Rattle.polynomial.specs.Words.{refusal_text}
use Rattle.stored.specs.declared.fault.Fault.{Fault}
use Rattle.stored.specs.declared.fault.Fault.TheVariants.{Bad, Memory}
use Rattle.stored.specs.declared.fault.Reason.{Reason}
use Rattle.stored.specs.declared.fault.Reason.TheVariants.{NoSheet, Unnamed as NotNamed, CutTerm, OpenRecord, OtherByte, TooManyRows, Refused, Zero, NotMonic, Repeated}

abbrev pub reason_text : Reason → List ℕ
reason_text NoSheet = codes "no whole sheet command"
reason_text (NotNamed u) = unnamed_text u
reason_text CutTerm = codes "file ends inside a term"
reason_text OpenRecord = codes "file ends inside a record"
reason_text OtherByte = codes "neither 01 nor 02"
reason_text TooManyRows = codes "more than 32 rows"
reason_text (Refused r) = refusal_text r
reason_text Zero = codes "row without terms"
reason_text NotMonic = codes "leading coefficient is not 1"
reason_text Repeated = codes "leading monomial of an earlier row"

-- the reason and its offset
abbrev pub fault_text : Fault → List ℕ
fault_text (Bad why at) = reason_text why ++ (codes ", at offset " ++ decimal at)
fault_text Memory = codes "no memory for the table"

-- the offset of the first operand by which the missing thing is named
abbrev pub unnamed_offset : Unnamed → ℕ
unnamed_offset Field = 1
unnamed_offset Variables = 4
unnamed_offset Order = 5
unnamed_offset Division = 6

-- where the sheet command stops making sense
abbrev pub unnamed_fault : Unnamed → Fault
unnamed_fault u = Bad (NotNamed u) (unnamed_offset u)
