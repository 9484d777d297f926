-- The rows of a fair copy, in rising order of their leading monomials. Only contracts of private functions use these words.
use Rattle.std.specs.Prelude.{◌≡◌, ℕ, cond, ◌↔◌, List, [], ◌∷◌, length}
use mathlib.Core.List.{Memᴰ}
use Rattle.std.specs.Ordering.{is_lt}
use Rattle.monomial.specs.Monomial.{Divides}
use Rattle.monomial.specs.Order.{Compare, Under}
use Rattle.monomial.specs.Division.{Within, member}

-- no other monomial of the list divides member k
abbrev pub Undivided : List (List ℕ) → ℕ → Type 0
Undivided U k = (j : ℕ) → Within j (length U) → Divides (member U j) (member U k) → j ≡ k

-- k stands before the first number whose member is not below its own
abbrev pub placed : Compare → List (List ℕ) → ℕ → List ℕ → List ℕ
placed O U k [] = k ∷ []
placed O U k (j ∷ ks) = cond (is_lt (O (member U j) (member U k))) (j ∷ placed O U k ks) (k ∷ j ∷ ks)

-- these are, of the first n members, those that no other divides
abbrev pub Picks : List (List ℕ) → ℕ → List ℕ → Type 0
Picks U n ks = (k : ℕ) → Memᴰ k ks ↔ (Within k n × Undivided U k)

-- each member stands below every later one
pub data Ascending (O : Compare) (U : List (List ℕ)) : List ℕ → Type 0 where
  ascending_none : Ascending O U []
  ascending_more : {k : ℕ} {ks : List ℕ} → ((j : ℕ) → Memᴰ j ks → Under O (member U k) (member U j)) → Ascending O U ks → Ascending O U (k ∷ ks)
