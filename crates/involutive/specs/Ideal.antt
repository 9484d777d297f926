-- The ideal of f1 to fk: every sum a1 f1 + … + ak fk, with any polynomials a1 to ak in the variables 1 to n.
use Rattle.std.specs.Prelude.{◌≡◌, ℕ, ◌↔◌, List, [], ◌∷◌, ◌++◌, length}
use mathlib.Core.List.{Memᴰ}
use Rattle.field.specs.Field.{FieldMeaning}
use Rattle.polynomial.specs.Polynomial.{Poly, Over}
use Rattle.involutive.specs.Value.{Equal, product}

abbrev pub combination : FieldMeaning → List Poly → List Poly → Poly
combination F [] gs = []
combination F (a ∷ more) [] = []
combination F (a ∷ more) (g ∷ gs) = product F a g ++ combination F more gs

-- f lies in the ideal of gs
pub record Member (F : FieldMeaning) (n : ℕ) (gs : List Poly) (f : Poly) : Type 0 where
  pub multipliers : List Poly
  pub each : length multipliers ≡ length gs
  pub over : (a : Poly) → Memᴰ a multipliers → Over F n a
  pub sum : Equal F f (combination F multipliers gs)

-- the ideals of gs and hs have the same members
abbrev pub SameIdeal : FieldMeaning → ℕ → List Poly → List Poly → Type 0
SameIdeal F n gs hs = (f : Poly) → Over F n f → Member F n gs f ↔ Member F n hs f
