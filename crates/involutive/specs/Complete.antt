-- Complete tables: what holds of every log, over every field, order and division that keeps its laws.
use Rattle.std.specs.Prelude.{◌≡◌, ℕ, ◌↔◌, List, length, take}
use Rattle.monomial.specs.Monomial.{one}
use Rattle.monomial.specs.Division.{Split, DivisionLaws, Within}
use Rattle.polynomial.specs.Polynomial.{Poly, leading}
use Rattle.involutive.specs.Value.{Equal, plus, minus, product, unit}
use Rattle.involutive.specs.Ideal.{Member, SameIdeal}
use Rattle.involutive.specs.Reduction.{row}
use Rattle.involutive.specs.Sheet.{Setting, Lawful, State, Closed}
use Rattle.involutive.specs.Answers.{Remains, written, FairCopies, copied_answer}
use Rattle.involutive.specs.Log.{Call, After}
use Rattle.involutive.specs.Sound.{Sound}

-- r is the granted remainder of f: the terms at the front of what the caller lent
pub record Granted (S : Setting) (s : State) (f r : Poly) : Type 0 where
  pub out : Poly
  pub after : Poly
  pub grant : Remains S s f out (written (length r)) after
  pub front : take (length r) after ≡ r

-- b is the granted fair copy: the bytes at the front of what the caller lent
pub record GrantedCopy (S : Setting) (s : State) (b : List ℕ) : Type 0 where
  pub rows : ℕ
  pub out : List ℕ
  pub after : List ℕ
  pub grant : FairCopies S s out (copied_answer rows (length b)) after
  pub front : take (length b) after ≡ b

module _ (S : Setting) where
  -- rows and accepted generators have the same ideal
  abbrev pub KeepsIdeal : Type 0
  KeepsIdeal = (calls : List Call) (s : State) (gs : List Poly) → After S calls s gs → SameIdeal S.field S.variables s.rows gs

  -- on a closed sheet remainders tell the ideal's classes apart
  abbrev pub RemaindersDecide : Type 0
  RemaindersDecide = (calls : List Call) (s : State) (gs : List Poly) → After S calls s gs → Closed S s →
      (f g r t : Poly) → Granted S s f r → Granted S s g t → (r ≡ t) ↔ Member S.field S.variables gs (minus S.field f g)

  -- the remainder of a sum is the sum of the remainders
  abbrev pub RemaindersAdd : Type 0
  RemaindersAdd = (calls : List Call) (s : State) (gs : List Poly) → After S calls s gs → Closed S s →
      (f g h r t u : Poly) → Equal S.field h (plus f g) → Granted S s f r → Granted S s g t → Granted S s h u → Equal S.field u (plus r t)

  -- the remainder of a product is that of the product of the remainders
  abbrev pub RemaindersMultiply : Type 0
  RemaindersMultiply = (calls : List Call) (s : State) (gs : List Poly) → After S calls s gs → Closed S s →
      (f g h p r t u w : Poly) → Equal S.field h (product S.field f g) → Equal S.field p (product S.field r t) →
      Granted S s f r → Granted S s g t → Granted S s h u → Granted S s p w → u ≡ w

-- the same sheet under another division
abbrev pub under_division : Setting → Split → Setting
under_division S D = record { field = S.field; order = S.order; division = D; variables = S.variables }

-- two closed sheets over one field, order and number of variables, under divisions of their own: equal fair copies, one ideal
abbrev pub CopiesDecide : Setting → Split → Type 0
CopiesDecide S D =
    (calls calls' : List Call) (s s' : State) (gs hs : List Poly) →
    After S calls s gs → Closed S s → After (under_division S D) calls' s' hs → Closed (under_division S D) s' →
    (b c : List ℕ) → GrantedCopy S s b → GrantedCopy (under_division S D) s' c → (b ≡ c) ↔ SameIdeal S.field S.variables gs hs

pub record Complete (S : Setting) : Type 0 where
  pub ideal : KeepsIdeal S
  pub decide : RemaindersDecide S
  pub add : RemaindersAdd S
  pub multiply : RemaindersMultiply S
  pub copies : (D : Split) → DivisionLaws D → CopiesDecide S D

abbrev pub CompleteTables : Type 0
CompleteTables = (S : Setting) → Lawful S → Complete S

-- a row whose leading monomial is 1
pub record UnitRow (s : State) : Type 0 where
  pub k : ℕ
  pub within : Within k (length s.rows)
  pub leads : leading (row s.rows k) ≡ one

-- on a sound closed sheet 1 lies in the ideal exactly when a row has the leading monomial 1; it is enough that a proof of
-- soundness exists (`∥ .. ∥₁`)
abbrev pub Verdict : Type 0
Verdict = (S : Setting) → Lawful S → (s : State) → ∥ Sound S s ∥₁ → Closed S s → Member S.field S.variables s.rows unit ↔ UnitRow s
