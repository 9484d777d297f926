-- The log of a sheet: every call after its making, with what it was handed, granted or denied, in any number and order.
use Rattle.std.specs.Prelude.{ℕ, List, [], ◌∷◌, ◌++◌}
use Rattle.polynomial.specs.Polynomial.{Poly}
use Rattle.involutive.specs.Reduction.{Refusal}
use Rattle.involutive.specs.Sheet.{Setting, State, empty}
use Rattle.involutive.specs.Answers.{Answer, rows_now, denied, Adds, Steps, Remains, Shows, FairCopies, Judges}

-- a call, with the polynomial or the row number and the buffer that it is handed
pub data Call : Type 0 where
  add : Poly → Call
  step : Call
  remainder : Poly → Poly → Call
  show_row : ℕ → Poly → Call
  fair_copy : List ℕ → Call
  verdict : Call

-- `After S calls s accepted`: the calls, the last one in front, leave the sheet in the state s and have accepted these generators
pub data After (S : Setting) : List Call → State → List Poly → Type 0 where
  made : After S [] empty []
  added : {calls : List Call} {s s' : State} {gs : List Poly} {f : Poly} {n : ℕ} → After S calls s gs → Adds S s f (rows_now n) s' → After S (add f ∷ calls) s' (gs ++ (f ∷ []))
  not_added : {calls : List Call} {s s' : State} {gs : List Poly} {f : Poly} {r : Refusal} → After S calls s gs → Adds S s f (denied r) s' → After S (add f ∷ calls) s' gs
  stepped : {calls : List Call} {s s' : State} {gs : List Poly} {a : Answer} → After S calls s gs → Steps S s a s' → After S (step ∷ calls) s' gs
  reduced : {calls : List Call} {s : State} {gs : List Poly} {f out out' : Poly} {a : Answer} → After S calls s gs → Remains S s f out a out' → After S (remainder f out ∷ calls) s gs
  shown : {calls : List Call} {s : State} {gs : List Poly} {k : ℕ} {out out' : Poly} {a : Answer} → After S calls s gs → Shows S s k out a out' → After S (show_row k out ∷ calls) s gs
  copied : {calls : List Call} {s : State} {gs : List Poly} {out out' : List ℕ} {a : Answer} → After S calls s gs → FairCopies S s out a out' → After S (fair_copy out ∷ calls) s gs
  judged : {calls : List Call} {s : State} {gs : List Poly} {a : Answer} → After S calls s gs → Judges S s a → After S (verdict ∷ calls) s gs
