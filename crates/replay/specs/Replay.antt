-- A command file and its transcript.
use Rattle.std.specs.Prelude.{◌≡◌, ℕ, suc, ◌+◌, ◌<◌, ◌≤◌, cond, ◌&&◌, List, [], ◌∷◌, ◌++◌, length, Some, None, Option, nat_le, slice_index}
use Rattle.field.specs.Field.{FieldMeaning}
use Rattle.field.specs.Kinds.{field_of}
use Rattle.monomial.specs.Monomial.{width}
use Rattle.monomial.specs.Order.{Compare, order_of}
use Rattle.monomial.specs.Division.{Split, division_of}
use Rattle.polynomial.specs.Polynomial.{Poly}
use Rattle.polynomial.specs.Check.{most_terms}
use Rattle.involutive.specs.Reduction.{Refusal}
use Rattle.involutive.specs.Sheet.{Setting, State, empty}
use Rattle.involutive.specs.Answers.{Answer, closed_answer, marked_answer, appended_answer, denied, Adds, Steps, Remains, Shows, FairCopies, Judges}
use Rattle.involutive.specs.Log.{Call, add, step, remainder, show_row, fair_copy, verdict, After}
use Rattle.lines.specs.Line.{line}
use Rattle.replay.specs.Words.{operand_bytes, word, term_of, gather, answered, shown, copied, stepped, refused_line}

-- `Stepping S s log n k e s' log'`: step, repeated n times at most from the state s, is granted k times,
-- ends with the denial e, if any, and leaves s' and the log with each of its steps
pub data Stepping (S : Setting) : State → List Call → ℕ → ℕ → Option Refusal → State → List Call → Type 0 where
  used_up : {s : State} {log : List Call} → Stepping S s log 0 0 None s log
  on_closed : {s s' : State} {log : List Call} {n : ℕ} → Steps S s closed_answer s' → Stepping S s log (suc n) 0 None s' (step ∷ log)
  on_denial : {s s' : State} {log : List Call} {n : ℕ} {r : Refusal} → Steps S s (denied r) s' → Stepping S s log (suc n) 0 (Some r) s' (step ∷ log)
  marks : {s s' s'' : State} {log log'' : List Call} {n k : ℕ} {e : Option Refusal} → Steps S s marked_answer s' → Stepping S s' (step ∷ log) n k e s'' log'' → Stepping S s log (suc n) (suc k) e s'' log''
  appends : {s s' s'' : State} {log log'' : List Call} {n k : ℕ} {e : Option Refusal} → Steps S s appended_answer s' → Stepping S s' (step ∷ log) n k e s'' log'' → Stepping S s log (suc n) (suc k) e s'' log''

-- room for 32 rows of 40 terms of 9 bytes and a closing byte each
abbrev pub most_bytes : ℕ
most_bytes = 11552

-- `Does S s log g at b ops s' log' g' text`: on a sheet with state s and log, with the terms g gathered, the command at
-- that offset, of byte b and operands ops, leaves s', log' and g', and writes that text
pub data Does (S : Setting) (s : State) (log : List Call) (g : Poly) (at : ℕ) : ℕ → List ℕ → State → List Call → Poly → List ℕ → Type 0 where
  gathers : {ops : List ℕ} → Does S s log g at 1 ops s log (gather g (term_of ops)) []
  adds : {ops : List ℕ} {r : Answer} {s' : State} → Adds S s g r s' → Does S s log g at 2 ops s' (add g ∷ log) [] (answered at 2 r)
  steps : {ops : List ℕ} {k : ℕ} {e : Option Refusal} {s' : State} {log' : List Call} → Stepping S s log (word (slice_index ops 0) (slice_index ops 1)) k e s' log' → Does S s log g at 3 ops s' log' g (stepped at k e)
  remains : {ops : List ℕ} {out out' : Poly} {r : Answer} → most_terms ≤ length out → Remains S s g out r out' → Does S s log g at 4 ops s (remainder g out ∷ log) [] (shown at 4 r out')
  shows : {ops : List ℕ} {out out' : Poly} {r : Answer} → most_terms ≤ length out → Shows S s (slice_index ops 0) out r out' → Does S s log g at 5 ops s (show_row (slice_index ops 0) out ∷ log) g (shown at 5 r out')
  copies : {ops out out' : List ℕ} {r : Answer} → most_bytes ≤ length out → FairCopies S s out r out' → Does S s log g at 6 ops s (fair_copy out ∷ log) g (copied at r out')
  judges : {ops : List ℕ} {r : Answer} → Judges S s r → Does S s log g at 7 ops s (verdict ∷ log) g (answered at 7 r)

-- a command stands at the front of bs: its byte, all its operands, and the rest
pub record CommandAt (bs : List ℕ) (b : ℕ) (ops rest : List ℕ) : Type 0 where
  pub known : b ≤ 7
  pub bytes : bs ≡ b ∷ (ops ++ rest)
  pub operands : length ops ≡ operand_bytes b

-- none does: the refusal's number
pub data Faulty : List ℕ → ℕ → ℕ → Type 0 where
  unknown : {b : ℕ} {bs : List ℕ} → 7 < b → Faulty (b ∷ bs) b 15
  short : {b : ℕ} {bs : List ℕ} → b ≤ 7 → length bs < operand_bytes b → Faulty (b ∷ bs) b 16

-- `Runs S s log g at bs s' log' text`: the commands bs, of which the first stands at that offset, given to a sheet with state s and log
pub data Runs (S : Setting) : State → List Call → Poly → ℕ → List ℕ → State → List Call → List ℕ → Type 0 where
  ends : {s : State} {log : List Call} {g : Poly} {at : ℕ} → Runs S s log g at [] s log []
  stops : {s : State} {log : List Call} {g : Poly} {at : ℕ} {bs : List ℕ} {b n : ℕ} → Faulty bs b n → Runs S s log g at bs s log (refused_line at b n)
  made_again : {s : State} {log : List Call} {g : Poly} {at : ℕ} {bs ops rest : List ℕ} → CommandAt bs 0 ops rest → Runs S s log g at bs s log (refused_line at 0 17)
  goes_on : {s s' s'' : State} {log log' log'' : List Call} {g g' : Poly} {at b : ℕ} {bs ops rest text more : List ℕ} → CommandAt bs b ops rest →
      Does S s log g at b ops s' log' g' text → Runs S s' log' g' (at + (operand_bytes b + 1)) rest s'' log'' more → Runs S s log g at bs s'' log'' (text ++ more)

-- the making: a setting, or the refusal's number
pub data Making : Type 0 where
  granted : Setting → Making
  refused : ℕ → Making

-- field, number of variables, order and division are looked up in this order
abbrev pub with_division : FieldMeaning → ℕ → Compare → Option Split → Making
with_division F n O (Some D) = granted (record { field = F; order = O; division = D; variables = n })
with_division F n O None = refused 4

abbrev pub with_order : FieldMeaning → ℕ → Option Compare → ℕ → Making
with_order F n (Some O) d = with_division F n O (division_of d)
with_order F n None d = refused 3

abbrev pub with_field : Option FieldMeaning → ℕ → ℕ → ℕ → Making
with_field (Some F) n o d = cond (nat_le 1 n && nat_le n width) (with_order F n (order_of o) d) (refused 2)
with_field None n o d = refused 1

-- by the operands of the sheet command
abbrev pub making : List ℕ → Making
making ops = with_field (field_of (slice_index ops 0) (word (slice_index ops 1) (slice_index ops 2))) (slice_index ops 3) (slice_index ops 4) (slice_index ops 5)

-- what follows the operands of the sheet command
pub data Starts (rest : List ℕ) : Making → List ℕ → Type 0 where
  not_made : {n : ℕ} → Starts rest (refused n) (line 0 0 n 0 [])
  is_made : {S : Setting} {s : State} {log : List Call} {gs : List Poly} {text : List ℕ} → Runs S empty [] [] 7 rest s log text → After S log s gs → Starts rest (granted S) (line 0 0 0 0 [] ++ text)

-- how many bytes of a command file are read: those behind them are not there
abbrev pub most_input : ℕ
most_input = 60000

-- a whole command file and what the program writes
pub data Transcript : List ℕ → List ℕ → Type 0 where
  nothing : Transcript [] []
  faulty : {bs : List ℕ} {b n : ℕ} → Faulty bs b n → Transcript bs (refused_line 0 b n)
  not_a_sheet : {bs ops rest : List ℕ} {b : ℕ} → CommandAt bs b ops rest → 0 < b → Transcript bs (refused_line 0 b 17)
  starts : {bs ops rest text : List ℕ} → CommandAt bs 0 ops rest → Starts rest (making ops) text → Transcript bs text

-- the bytes now are those before and a text of this kind
pub record Appends (before after : List ℕ) (P : List ℕ → Type 0) : Type 0 where
  pub text : List ℕ
  pub bytes : after ≡ before ++ text
  pub is_so : P text

-- one command was carried out, for every log that leaves the state
abbrev pub Acts : Setting → State → Poly → ℕ → ℕ → List ℕ → State → Poly → List ℕ → List ℕ → Type 0
Acts S s g at b ops s' g' before after = (log : List Call) → Appends before after (λ text. (log' : List Call) × Does S s log g at b ops s' log' g' text)

-- a whole run on one sheet, for every log that leaves it as it was
abbrev pub Ran : Setting → State → Poly → ℕ → List ℕ → State → List ℕ → List ℕ → Type 0
Ran S s g at bs s' before after = (log : List Call) (gs : List Poly) → After S log s gs →
    Appends before after (λ text. (log' : List Call) × (gs' : List Poly) × Runs S s log g at bs s' log' text × After S log' s' gs')

-- a command file has one transcript at most
abbrev pub OneTranscript : Type 0
OneTranscript = (bs text other : List ℕ) → Transcript bs text → Transcript bs other → text ≡ other
