-- The theorems speak of what exists: sums, members of ideals, and closed sheets made by calls, all over the integers modulo 3.
use Rattle.std.specs.Prelude.{◌≡◌, ℕ, ◌<◌, List, [], ◌∷◌, length}
use Rattle.monomial.specs.Division.{DivisionLaws, thomas}
use Rattle.polynomial.specs.Polynomial.{Poly}
use Rattle.involutive.specs.Value.{Equal, plus, product, unit}
use Rattle.involutive.specs.Ideal.{Member, SameIdeal}
use Rattle.involutive.specs.Sheet.{Setting, Lawful, State, Closed}
use Rattle.involutive.specs.Log.{Call, After, add}
use Rattle.involutive.specs.Sound.{Sound}
use Rattle.involutive.specs.Complete.{Granted, GrantedCopy, under_division}
use Rattle.involutive.specs.Facts.{three, x1, x2, x1²+2, x1x2+2, x1+2x2, x2²+2, two_adds, steps}

-- a closed sheet that the calls have made
pub record Made (S : Setting) (calls : List Call) : Type 0 where
  pub state : State
  pub generators : List Poly
  pub after : After S calls state generators
  pub sound : Sound S state
  pub closed : Closed S state

-- one with rows, an ideal without 1, two remainders that differ, and two polynomials with one remainder
pub record Proper (S : Setting) (calls : List Call) : Type 0 where
  pub sheet : Made S calls
  pub nonempty : 0 < length sheet.state.rows
  pub proper : Member S.field S.variables sheet.generators unit → ⊥
  pub f : Poly
  pub g : Poly
  pub r : Poly
  pub t : Poly
  pub first : Granted S sheet.state f r
  pub second : Granted S sheet.state g t
  pub differ : r ≡ t → ⊥
  pub h : Poly
  pub third : Granted S sheet.state h r
  pub other : h ≡ f → ⊥

-- two polynomials, their sum, their product and the product of their remainders, each with its remainder
pub record Combined (S : Setting) (calls : List Call) : Type 0 where
  pub sheet : Made S calls
  pub f : Poly
  pub g : Poly
  pub r : Poly
  pub t : Poly
  pub first : Granted S sheet.state f r
  pub second : Granted S sheet.state g t
  pub sum : Poly
  pub is_sum : Equal S.field sum (plus f g)
  pub u : Poly
  pub of_sum : Granted S sheet.state sum u
  pub fg : Poly
  pub is_fg : Equal S.field fg (product S.field f g)
  pub rt : Poly
  pub is_rt : Equal S.field rt (product S.field r t)
  pub w : Poly
  pub of_fg : Granted S sheet.state fg w
  pub of_rt : Granted S sheet.state rt w

-- two tables, and one fair copy
pub record OneCopy (S T : Setting) (calls calls' : List Call) : Type 0 where
  pub here : Made S calls
  pub there : Made T calls'
  pub tables : here.state.rows ≡ there.state.rows → ⊥
  pub copy : List ℕ
  pub copy_here : GrantedCopy S here.state copy
  pub copy_there : GrantedCopy T there.state copy

-- two ideals, and two fair copies
pub record TwoCopies (S : Setting) (calls calls' : List Call) : Type 0 where
  pub here : Made S calls
  pub there : Made S calls'
  pub ideals : SameIdeal S.field S.variables here.generators there.generators → ⊥
  pub copy : List ℕ
  pub other : List ℕ
  pub copy_here : GrantedCopy S here.state copy
  pub copy_there : GrantedCopy S there.state other
  pub copies : copy ≡ other → ⊥

pub record NotEmpty : Type 0 where
  pub lawful : Lawful three
  pub sum : Equal three.field x1+2x2 (plus x1 (plus x2 x2))
  -- a member that is none of the generators
  pub member : Member three.field three.variables (x1²+2 ∷ x1x2+2 ∷ []) x1+2x2
  pub proper : Proper three (steps 6 two_adds)
  pub combined : Combined three (steps 6 two_adds)
  -- one log under two divisions
  pub two_divisions : OneCopy three (under_division three thomas) (steps 21 two_adds) (steps 21 two_adds)
  pub laws : DivisionLaws thomas
  -- two lists of generators under one division
  pub one_division : OneCopy three three (steps 6 two_adds) (steps 1 (add x2²+2 ∷ add x1+2x2 ∷ []))
  pub two_copies : TwoCopies three (steps 6 two_adds) (add x1+2x2 ∷ [])
