-- A sound sheet: what holds of the rows and the marks of every sheet that calls have made.
use Rattle.std.specs.Prelude.{◌≡◌, ℕ, ◌≤◌, true, List, [], length}
use mathlib.Core.List.{Memᴰ}
use Rattle.monomial.specs.Division.{Within}
use Rattle.polynomial.specs.Polynomial.{Poly, leading, leading_coefficient}
use Rattle.polynomial.specs.Check.{Acceptable, most_terms}
use Rattle.involutive.specs.Reduction.{row, left}
use Rattle.involutive.specs.Sheet.{Setting, Lawful, State, most_rows, Pair, prolonged}
use Rattle.involutive.specs.Answers.{ReducesTo}
use Rattle.involutive.specs.Log.{Call, After}

-- a row: written in the variables 1 to n, with at most 40 terms and no exponent above 40; and monic, so not empty
pub record Row (S : Setting) (f : Poly) : Type 0 where
  pub acceptable : Acceptable S.field S.order S.variables f
  pub monic : leading_coefficient f ≡ 1

pub record Sound (S : Setting) (s : State) : Type 0 where
  pub each : (f : Poly) → Memᴰ f s.rows → Row S f
  pub few : length s.rows ≤ most_rows
  -- leading monomials are distinct
  pub once : (j k : ℕ) → Within j (length s.rows) → Within k (length s.rows) → leading (row s.rows j) ≡ leading (row s.rows k) → j ≡ k
  -- the prolongation of every marked pair reduces to zero by the present table
  pub marked : (k v : ℕ) → Pair S s k v → s.marks k v ≡ true → ReducesTo S s most_terms (prolonged S s k v) (left [])

-- every log leaves a sound sheet
abbrev pub SoundnessKept : Type 0
SoundnessKept = (S : Setting) → Lawful S → (calls : List Call) (s : State) (gs : List Poly) → After S calls s gs → Sound S s
