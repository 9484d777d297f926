-- The making of a sheet: a new sheet has no rows and no marks, so it is closed.
use Rattle.std.specs.Prelude.{◌≡◌, ℕ, []}
use Rattle.monomial.specs.Monomial.{width}
use Rattle.monomial.specs.Division.{Within}
use Rattle.involutive.specs.Sheet.{Setting, State, empty}
use Rattle.involutive.specs.Log.{After}
use Rattle.involutive.specs.Sound.{Sound}
use Rattle.sheet.specs.declared.unmade.Unmade.{Unmade}
use Rattle.sheet.specs.declared.unmade.Unmade.TheVariants.{Variables, Memory}

-- a sheet of the setting S and the state s, made as asked
pub record Begins (asked S : Setting) (s : State) : Type 0 where
  pub within : Within asked.variables width
  pub setting : S ≡ asked
  pub state : s ≡ empty
  -- no call has been made
  pub logged : After S [] s []
  pub sound : Sound S s

-- why there is no sheet of n variables: n is not 1 to 6, which is looked at first, or else memory is wanting
abbrev pub Denies : ℕ → Unmade → Type 0
Denies n Variables = Within n width → ⊥
Denies n Memory = Within n width
