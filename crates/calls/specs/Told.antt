-- What the code's answers tell, in the words of the definitions: each refusal has its number and place.
use Rattle.std.specs.Prelude.{ℕ, Ok, Err, Result}
use Rattle.involutive.specs.Sheet.{most_rows}
use Rattle.involutive.specs.Answers.{Answer, rows_now, closed_answer, marked_answer, appended_answer, written, copied_answer, verdict_answer, denied, fault_refusal}
use Rattle.involutive.specs.Reduction as Reduction
use Rattle.involutive.specs.Reduction.{refuse}
use Rattle.calls.specs.declared.refusal.Refusal.{Refusal}
use Rattle.calls.specs.declared.refusal.Refusal.TheVariants.{Polynomial, Wide, Long, Full, NotClosed, NoRow, Short}
use Rattle.calls.specs.declared.answer.Step.{Step}
use Rattle.calls.specs.declared.answer.Step.TheVariants.{Closed, Marked, Appended}
use Rattle.calls.specs.declared.answer.Copied.{Copied}
use Rattle.calls.specs.declared.answer.Verdict.{Verdict}
use Rattle.calls.specs.declared.answer.Verdict.TheVariants.{Possible, Impossible}

abbrev pub told : Refusal → Reduction.Refusal
told (Polynomial unfit) = fault_refusal unfit
told (Wide row) = refuse 9 row
told (Long row) = refuse 10 row
told Full = refuse 11 most_rows
told NotClosed = refuse 12 0
told (NoRow number) = refuse 13 number
told (Short needed) = refuse 14 needed

-- an add tells the rows now
abbrev pub added : Result ℕ Refusal → Answer
added (Ok n) = rows_now n
added (Err r) = denied (told r)

abbrev pub stepped : Result Step Refusal → Answer
stepped (Ok Closed) = closed_answer
stepped (Ok Marked) = marked_answer
stepped (Ok Appended) = appended_answer
stepped (Err r) = denied (told r)

-- a remainder and a row tell the terms written
abbrev pub wrote : Result ℕ Refusal → Answer
wrote (Ok n) = written n
wrote (Err r) = denied (told r)

abbrev pub copied : Result Copied Refusal → Answer
copied (Ok c) = copied_answer c.rows c.bytes
copied (Err r) = denied (told r)

-- a verdict is 1 where 1 lies in the ideal
abbrev pub judgement : Verdict → ℕ
judgement Possible = 0
judgement Impossible = 1

abbrev pub judged : Result Verdict Refusal → Answer
judged (Ok v) = verdict_answer (judgement v)
judged (Err r) = denied (told r)
