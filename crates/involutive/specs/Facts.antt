-- Worked facts: what the definitions come to in small cases.
use Rattle.std.specs.Prelude.{◌≡◌, ℕ, zero, suc, ◌-◌, ◌≤◌, Bool, false, ◌||◌, List, [], ◌∷◌, length, replicate, Some, ◌==◌, slice_index_or}
use mathlib.Core.List.{Memᴰ}
use Rattle.field.specs.Field.{FieldMeaning}
use Rattle.field.specs.Primes.{prime_meaning}
use Rattle.field.specs.Four.{four_meaning}
use Rattle.monomial.specs.Order.{Compare, Under, lexicographic, degree_lexicographic, degree_reverse}
use Rattle.monomial.specs.Division.{Split, Within, janet, thomas}
use Rattle.polynomial.specs.Polynomial.{Poly, term}
use Rattle.polynomial.specs.Bytes.{copy_bytes}
use Rattle.involutive.specs.Value.{unit}
use Rattle.involutive.specs.Sheet.{Setting, State, Closed}
use Rattle.involutive.specs.Answers.{FairCopies, Judges, copied_answer, verdict_answer, front}
use Rattle.involutive.specs.Log
use Rattle.involutive.specs.Log.{Call, After, add, step}

abbrev pub listed : ℕ → List ℕ → Bool
listed v [] = false
listed v (w ∷ ws) = v == w || listed v ws

-- after these calls the sheet is closed, with these rows, this fair copy and this verdict
pub record Ends (S : Setting) (calls : List Call) (generators rows copy : List Poly) (verdict : ℕ) : Type 0 where
  pub state : State
  pub after : After S calls state generators
  pub rows_are : state.rows ≡ rows
  pub closed : Closed S state
  pub fair_copy : (out : List ℕ) → length (copy_bytes copy) ≤ length out → FairCopies S state out (copied_answer (length copy) (length (copy_bytes copy))) (front (copy_bytes copy) out)
  pub judged : Judges S state (verdict_answer verdict)

-- after these calls the sheet is not closed yet
pub record Open (S : Setting) (calls : List Call) (generators : List Poly) : Type 0 where
  pub state : State
  pub after : After S calls state generators
  pub not_closed : Closed S state → ⊥

pub data Fact : Type 0 where
  -- in this field the inverse of a is b
  inverse : FieldMeaning → ℕ → ℕ → Fact
  -- in this order the first monomial stands below the second
  below : Compare → List ℕ → List ℕ → Fact
  -- in this division and up to this variable, the multiplicative variables of each monomial of the list
  multiplicative : Split → ℕ → List (List ℕ) → List (List ℕ) → Fact
  -- what calls on a sheet come to: accepted generators, rows, fair copy and verdict
  ends : Setting → List Call → List Poly → List Poly → List Poly → ℕ → Fact
  -- calls that do not close a sheet yet, and its accepted generators
  still_open : Setting → List Call → List Poly → Fact

abbrev pub Holds : Fact → Type 0
Holds (inverse F a b) = (F.inv a ≡ b) × (F.mul a b ≡ 1)
Holds (below O u m) = Under O u m
Holds (multiplicative D n U variables) = (k v : ℕ) → Within k (length U) → Within v n → D U k v ≡ Some (listed v (slice_index_or variables (k - 1) []))
Holds (ends S calls generators rows copy verdict) = Ends S calls generators rows copy verdict
Holds (still_open S calls generators) = Open S calls generators

-- x1^a x2^b x3^c
abbrev pub power : ℕ → ℕ → ℕ → List ℕ
power a b c = a ∷ b ∷ c ∷ 0 ∷ 0 ∷ 0 ∷ []

-- two variables over the integers modulo 3
abbrev pub three : Setting
three = record { field = prime_meaning 3; order = lexicographic; division = janet; variables = 2 }

abbrev pub x1 : Poly
x1 = term 1 (power 1 0 0) ∷ []

abbrev pub x2 : Poly
x2 = term 1 (power 0 1 0) ∷ []

abbrev pub x1x2² : Poly
x1x2² = term 1 (power 1 2 0) ∷ []

abbrev pub x1²+2 : Poly
x1²+2 = term 1 (power 2 0 0) ∷ term 2 (power 0 0 0) ∷ []

abbrev pub x1x2+2 : Poly
x1x2+2 = term 1 (power 1 1 0) ∷ term 2 (power 0 0 0) ∷ []

abbrev pub x1+2x2 : Poly
x1+2x2 = term 1 (power 1 0 0) ∷ term 2 (power 0 1 0) ∷ []

abbrev pub x2²+2 : Poly
x2²+2 = term 1 (power 0 2 0) ∷ term 2 (power 0 0 0) ∷ []

abbrev pub two_adds : List Call
two_adds = add x1x2+2 ∷ add x1²+2 ∷ []

-- so many steps after the calls
abbrev pub steps : ℕ → List Call → List Call
steps zero calls = calls
steps (suc n) calls = step ∷ steps n calls

-- calls of every kind; the verdict is denied before the steps close the sheet, and the last add since 3 is no code modulo 3
abbrev pub every_call : List Call
every_call =
    Log.fair_copy (replicate 38 0) ∷ Log.show_row 4 x1²+2 ∷ Log.remainder x1x2² unit ∷ add (term 3 (power 1 0 0) ∷ [])
    ∷ steps 6 (Log.verdict ∷ two_adds)

abbrev pub facts : List Fact
facts =
    inverse four_meaning 2 3
    ∷ inverse (prime_meaning 7) 3 5
    ∷ below degree_lexicographic (power 0 2 0) (power 1 0 1)
    ∷ below degree_reverse (power 1 0 1) (power 0 2 0)
    ∷ multiplicative janet 2 (power 2 1 0 ∷ power 1 2 0 ∷ power 0 4 0 ∷ []) ((1 ∷ 2 ∷ []) ∷ (2 ∷ []) ∷ (2 ∷ []) ∷ [])
    ∷ multiplicative thomas 2 (power 2 1 0 ∷ power 1 2 0 ∷ power 0 4 0 ∷ []) ((1 ∷ []) ∷ [] ∷ (2 ∷ []) ∷ [])
    ∷ multiplicative janet 2 (power 1 0 0 ∷ power 0 1 0 ∷ []) ((1 ∷ 2 ∷ []) ∷ (2 ∷ []) ∷ [])
    ∷ ends three [] [] [] [] 0
    ∷ ends three (add unit ∷ []) (unit ∷ []) (unit ∷ []) (unit ∷ []) 1
    ∷ still_open three (steps 5 two_adds) (x1²+2 ∷ x1x2+2 ∷ [])
    ∷ ends three (steps 6 two_adds) (x1²+2 ∷ x1x2+2 ∷ []) (x1²+2 ∷ x1x2+2 ∷ x1+2x2 ∷ x2²+2 ∷ []) (x2²+2 ∷ x1+2x2 ∷ []) 0
    ∷ ends three every_call (x1²+2 ∷ x1x2+2 ∷ []) (x1²+2 ∷ x1x2+2 ∷ x1+2x2 ∷ x2²+2 ∷ []) (x2²+2 ∷ x1+2x2 ∷ []) 0
    ∷ []

abbrev pub FactsHold : Type 0
FactsHold = (f : Fact) → Memᴰ f facts → Holds f
