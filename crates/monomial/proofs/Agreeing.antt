-- Asking each member of a list is asking the list for the largest exponent.
use Rattle.std.proofs.Common.{◌≡◌, ℕ, Bool, not, ◌&&◌, ◌||◌, leb, List, [], ◌∷◌, refl, ap, ◌∙◌}
use Rattle.std.proofs.Math.Bool.{or_comm}
use Rattle.std.specs.List.{list_all}
use Rattle.monomial.specs.declared.Monomial.{Monomial}
use Rattle.monomial.specs.Monomial.{exponent}
use Rattle.monomial.specs.Division.{largest}
use Rattle.monomial.specs.Lists.{exponents_of}

pub all_largest : (among : List ℕ → Bool) (v : ℕ) (u : List ℕ) (list : List Monomial) → list_all (λ w. leb (exponent w.exponents v) (exponent u v) || not (among w.exponents)) list ≡ largest among (exponents_of list) v u
all_largest among v u [] = refl
all_largest among v u (w ∷ list) =
    let most = leb (exponent w.exponents v) (exponent u v) in
    let other = not (among w.exponents) in
    ap (λ t. (most || other) && t) (all_largest among v u list) ∙ ap (λ t. t && largest among (exponents_of list) v u) (or_comm most other)
