-- A call enters the log: whatever log leaves the sheet as it was, that log with the call leaves it as it is now.
use Rattle.std.specs.Prelude.{List, [], ◌∷◌, ◌++◌}
use Rattle.polynomial.specs.Polynomial.{Poly}
use Rattle.involutive.specs.Sheet.{Setting, State}
use Rattle.involutive.specs.Answers.{Answer, rows_now, closed_answer, marked_answer, appended_answer, written, copied_answer, verdict_answer, denied}
use Rattle.involutive.specs.Log.{Call, After}

-- a granted add accepts its generator, and no other answer accepts one
abbrev pub accepted : Answer → Poly → List Poly → List Poly
accepted (rows_now n) f gs = gs ++ (f ∷ [])
accepted closed_answer f gs = gs
accepted marked_answer f gs = gs
accepted appended_answer f gs = gs
accepted (written n) f gs = gs
accepted (copied_answer rows bytes) f gs = gs
accepted (verdict_answer v) f gs = gs
accepted (denied r) f gs = gs

-- the log with an add
abbrev pub LoggedAdd : Setting → Call → Poly → Answer → State → State → Type 0
LoggedAdd S call f a s s' = (calls : List Call) (gs : List Poly) → After S calls s gs → After S (call ∷ calls) s' (accepted a f gs)

-- the log with any other call, which accepts nothing
abbrev pub Logged : Setting → Call → State → State → Type 0
Logged S call s s' = (calls : List Call) (gs : List Poly) → After S calls s gs → After S (call ∷ calls) s' gs
