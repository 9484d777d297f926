-- What subtracting a multiple comes to.
use Rattle.std.specs.Prelude.{ℕ, ◌<◌, ◌≤◌, length, Ok, Err, Result}
use Rattle.field.specs.Field.{FieldMeaning}
use Rattle.monomial.specs.Order.{Compare}
use Rattle.polynomial.specs.Polynomial.{Poly, Written}
use Rattle.polynomial.specs.Check.{Fits, most_terms}
use Rattle.involutive.specs.Value.{Equal, minus}
use Rattle.reduction.specs.declared.refusal.Reason.{Reason}
use Rattle.reduction.specs.declared.refusal.Reason.TheVariants.{Wide, Long}

-- g is h − f, written down
pub record Differs (F : FieldMeaning) (O : Compare) (n : ℕ) (h f g : Poly) : Type 0 where
  pub written : Written F O n g
  pub value : Equal F g (minus F h f)

-- the difference h − f is written, or f has an exponent above 40, or else the difference has more terms than there is room for
abbrev pub Subtracted : FieldMeaning → Compare → ℕ → ℕ → Poly → Poly → Result (Unit {0}) Reason → Poly → Type 0
Subtracted F O n room h f (Ok u) out = Fits f × Differs F O n h f out × (length out ≤ room)
Subtracted F O n room h f (Err Wide) out = Fits f → ⊥
Subtracted F O n room h f (Err Long) out = Fits f × ((g : Poly) × Differs F O n h f g × (room < length g))

-- why the terms f are not multiplied: they are more than 40, or else their multiple g has an exponent above 40
abbrev pub Unscaled : Poly → Poly → Reason → Type 0
Unscaled f g Long = most_terms < length f
Unscaled f g Wide = (length f ≤ most_terms) × (Fits g → ⊥)
