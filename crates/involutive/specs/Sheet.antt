-- A sheet: what it is made of, its rows and its marks; the pairs of a row and a variable, and which of them a step treats.
use Rattle.std.specs.Prelude.{◌≡◌, ℕ, ◌≤◌, Bool, true, false, ◌&&◌, ◌||◌, ◌⊎◌, List, [], ◌∷◌, ◌++◌, length, Some, ◌==◌}
use Rattle.field.specs.Field.{FieldMeaning, FieldLaws}
use Rattle.monomial.specs.Monomial.{width, one, variable, times}
use Rattle.monomial.specs.Order.{Compare, OrderLaws, Under}
use Rattle.monomial.specs.Division.{Split, DivisionLaws, Within}
use Rattle.polynomial.specs.Polynomial.{Poly, leading, leading_coefficient}
use Rattle.involutive.specs.Value.{scaled}
use Rattle.involutive.specs.Reduction.{Table, row, leaders}

-- what a sheet is made of, once and for all
pub record Setting : Type 0 where
  pub field : FieldMeaning
  pub order : Compare
  pub division : Split
  pub variables : ℕ

-- a setting whose field, order and division keep their laws
pub record Lawful (S : Setting) : Type 0 where
  pub field : FieldLaws S.field
  pub order : OrderLaws S.order
  pub division : DivisionLaws S.division
  pub variables : Within S.variables width

-- the rows, and the mark at row k and variable v
pub record State : Type 0 where
  pub rows : Table
  pub marks : ℕ → ℕ → Bool

abbrev pub empty : State
empty = record { rows = []; marks = λ k v. false }

-- the most rows of a sheet
abbrev pub most_rows : ℕ
most_rows = 32

-- a row and a variable that is not multiplicative for it
pub record Pair (S : Setting) (s : State) (k v : ℕ) : Type 0 where
  pub at_row : Within k (length s.rows)
  pub at_variable : Within v S.variables
  pub not_multiplicative : S.division (leaders s.rows) k v ≡ Some false

-- every pair is marked
abbrev pub Closed : Setting → State → Type 0
Closed S s = (k v : ℕ) → Pair S s k v → s.marks k v ≡ true

-- row k times the variable v
abbrev pub prolonged : Setting → State → ℕ → ℕ → Poly
prolonged S s k v = scaled S.field 1 (variable v) (row s.rows k)

-- the leading monomial of row k times the variable v
abbrev pub height : State → ℕ → ℕ → List ℕ
height s k v = times (variable v) (leading (row s.rows k))

-- the unmarked pair whose row's leading monomial times its variable is smallest, at a tie the lowest row
pub record Chosen (S : Setting) (s : State) (k v : ℕ) : Type 0 where
  pub pair : Pair S s k v
  pub unmarked : s.marks k v ≡ false
  pub smallest : (j u : ℕ) → Pair S s j u → s.marks j u ≡ false → Under S.order (height s k v) (height s j u) ⊎ ((height s k v ≡ height s j u) × (k ≤ j))

-- one mark more
abbrev pub with_mark : State → ℕ → ℕ → State
with_mark s k v = record { rows = s.rows; marks = λ j u. (j == k && u == v) || s.marks j u }

-- one row more, divided by its leading coefficient, and no marks: they spoke of the old rows
abbrev pub with_row : Setting → State → Poly → State
with_row S s f = record {
  rows = s.rows ++ (scaled S.field (S.field.inv (leading_coefficient f)) one f ∷ []);
  marks = λ k v. false;
}
