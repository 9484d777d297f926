-- An order compares two monomials. Its laws, and the three orders.
use Rattle.std.specs.Prelude.{◌≡◌, ℕ, cond, ◌↔◌, List, [], ◌∷◌, reverse, Some, None, Option, ◌==◌, ◌≢◌, nat_lt}
use Rattle.std.specs.declared.cmp.Ordering.TheVariants.{Less, Equal, Greater}
use Rattle.std.specs.declared.cmp.Ordering.{Ordering}
use mathlib.Core.WellFounded.{WellFounded}
use Rattle.std.specs.Ordering.{ordering_reverse, ordering_then}
use Rattle.monomial.specs.Monomial.{Wide, one, times, degree}

abbrev pub Compare : Type 0
Compare = List ℕ → List ℕ → Ordering

-- u stands below m
abbrev pub Under : Compare → List ℕ → List ℕ → Type 0
Under O u m = O u m ≡ Less

-- the same among monomials of the full width
abbrev pub UnderWide : Compare → ((u : List ℕ) × Wide u) → ((u : List ℕ) × Wide u) → Type 0
UnderWide O u m = Under O u.0 m.0

pub record OrderLaws (O : Compare) : Type 0 where
  pub total : (u m : List ℕ) → Wide u → Wide m → O m u ≡ ordering_reverse (O u m)
  pub equal : (u m : List ℕ) → Wide u → Wide m → O u m ≡ Equal ↔ (u ≡ m)
  pub transitive : (u v m : List ℕ) → Wide u → Wide v → Wide m → Under O u v → Under O v m → Under O u m
  pub factor : (a u m : List ℕ) → Wide a → Wide u → Wide m → O (times a u) (times a m) ≡ O u m
  pub least : (m : List ℕ) → Wide m → (m ≢ one) → Under O one m
  pub falls : WellFounded (UnderWide O)

-- how two numbers compare
abbrev pub numbers : ℕ → ℕ → Ordering
numbers d e = cond (nat_lt d e) Less (cond (nat_lt e d) Greater Equal)

-- lexicographic: the first exponent that differs decides, and the larger is greater
abbrev pub lexicographic : Compare
lexicographic [] m = Equal
lexicographic (d ∷ u) [] = Equal
lexicographic (d ∷ u) (e ∷ m) = ordering_then (numbers d e) (lexicographic u m)

-- the larger degree is greater, then lexicographic
abbrev pub degree_lexicographic : Compare
degree_lexicographic u m = ordering_then (numbers (degree u) (degree m)) (lexicographic u m)

-- the larger degree is greater; at equal degrees the last exponent that differs decides, and the smaller is greater
abbrev pub degree_reverse : Compare
degree_reverse u m = ordering_then (numbers (degree u) (degree m)) (ordering_reverse (lexicographic (reverse u) (reverse m)))

-- the order that a code names
abbrev pub order_of : ℕ → Option Compare
order_of code =
    cond (code == 1) (Some lexicographic)
    (cond (code == 2) (Some degree_lexicographic)
    (cond (code == 3) (Some degree_reverse) None))
