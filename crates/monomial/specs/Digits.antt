-- The number that a list of digits spells in base 256. Only the contract of a private function uses these words.
use Rattle.std.specs.Prelude.{ℕ, ◌+◌, ◌*◌, ◌<◌, List, [], ◌∷◌, slice_index}

abbrev pub Digits : List ℕ → Type 0
Digits u = (i : ℕ) → slice_index u i < 256

-- digits that stand after those of n
abbrev pub spelled_after : ℕ → List ℕ → ℕ
spelled_after n [] = n
spelled_after n (d ∷ u) = spelled_after (n * 256 + d) u

-- the first digit is the highest
abbrev pub spelled : List ℕ → ℕ
spelled u = spelled_after 0 u
