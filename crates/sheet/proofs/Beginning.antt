-- A new sheet is sound.
use Rattle.std.proofs.Common.{◌≡◌, ℕ, Bool, false, List, [], sym, refl, ap, ◌∙◌, subst}
use Rattle.involutive.specs.Sheet.{Setting, Lawful, empty}
use Rattle.involutive.specs.Log.{After, made}
use Rattle.involutive.specs.Sound.{Sound}
use Rattle.involutive.proofs.Soundness
use Rattle.reduction.specs.declared.table.Row.{Row}
use Rattle.sheet.specs.Making.{Begins}
use Rattle.sheet.specs.Marks.{marked, state_of}

pub begins : (S : Setting) → Lawful S → (rows : List Row) (xs : List (List Bool)) → rows ≡ [] → ((k v : ℕ) → marked xs k v ≡ false) → Begins S S (state_of rows xs)
begins S W rows xs e m = record {
  within = W.variables;
  setting = refl;
  state = state;
  logged = subst (λ s. After S [] s []) (sym state) made;
  sound = subst (Sound S) (sym state) (Soundness.sound_empty S W);
}
  where
    new : state_of [] xs ≡ empty
    new = λ i. record { rows = []; marks = λ k v. m k v i }

    state : state_of rows xs ≡ empty
    state = ap (λ r. state_of r xs) e ∙ new
