-- A division tells which variables are multiplicative for a member of a list of monomials. Its laws, and two divisions.
use Rattle.std.specs.Prelude.{◌≡◌, ℕ, ◌-◌, ◌<◌, ◌≤◌, Bool, true, false, cond, not, ◌&&◌, ◌||◌, List, [], ◌∷◌, length, take, Some, None, Option, ◌==◌, nat_le, slice_index_or}
use Rattle.monomial.specs.Monomial.{Wide, width, same, exponent, variable, times, Divides, quotient}

-- what a division answers, given the list, the member's number and the variable's, both from 1
abbrev pub Split : Type 0
Split = List (List ℕ) → ℕ → ℕ → Option Bool

abbrev pub member : List (List ℕ) → ℕ → List ℕ
member U k = slice_index_or U (k - 1) []

abbrev pub Within : ℕ → ℕ → Type 0
Within k n = (1 ≤ k) × (k ≤ n)

-- a list of monomials of the full width, none of them twice
pub record Distinct (U : List (List ℕ)) : Type 0 where
  pub wide : (k : ℕ) → Within k (length U) → Wide (member U k)
  pub once : (j k : ℕ) → Within j (length U) → Within k (length U) → member U j ≡ member U k → j ≡ k

-- member k of U is an involutive divisor of m: it divides m, and every variable of the quotient is multiplicative for it
pub record Involutive (D : Split) (U : List (List ℕ)) (k : ℕ) (m : List ℕ) : Type 0 where
  pub within : Within k (length U)
  pub divides : Divides (member U k) m
  pub multiplicative : (v : ℕ) → Within v width → 0 < exponent (quotient m (member U k)) v → D U k v ≡ Some true

-- member k is an involutive divisor of member j times a variable that is not multiplicative for member j
pub record Next (D : Split) (U : List (List ℕ)) (j k : ℕ) : Type 0 where
  pub from : Within j (length U)
  pub by : ℕ
  pub by_within : Within by width
  pub not_multiplicative : D U j by ≡ Some false
  pub divisor : Involutive D U k (times (variable by) (member U j))

-- a walk from member j to member k by one step or more
pub data Walk (D : Split) (U : List (List ℕ)) : ℕ → ℕ → Type 0 where
  step : {j k : ℕ} → Next D U j k → Walk D U j k
  walk : {i j k : ℕ} → Next D U i j → Walk D U j k → Walk D U i k

pub record DivisionLaws (D : Split) : Type 0 where
  pub answers : (U : List (List ℕ)) (k v : ℕ) → Within k (length U) → Within v width → (b : Bool) × (D U k v ≡ Some b)
  pub refuses : (U : List (List ℕ)) (k v : ℕ) → (Within k (length U) × Within v width → ⊥) → D U k v ≡ None
  pub no_two : (U : List (List ℕ)) → Distinct U → (m : List ℕ) → Wide m → (j k : ℕ) → Involutive D U j m → Involutive D U k m → j ≡ k
  pub no_return : (U : List (List ℕ)) → Distinct U → (k : ℕ) → Walk D U k k → ⊥

-- the answer b, where there is such a member and such a variable
abbrev pub asked : List (List ℕ) → ℕ → ℕ → Bool → Option Bool
asked U k v b =
    elim (nat_le 1 k && nat_le k (length U) && nat_le 1 v && nat_le v width) [ true ↦ Some b | false ↦ None ]

-- no member that passes the test has a larger exponent of v than u
abbrev pub largest : (List ℕ → Bool) → List (List ℕ) → ℕ → List ℕ → Bool
largest among [] v u = true
largest among (w ∷ U) v u = (not (among w) || nat_le (exponent w v) (exponent u v)) && largest among U v u

-- w has u's exponents in the first k variables
abbrev pub agrees : ℕ → List ℕ → List ℕ → Bool
agrees k u w = same (take k w) (take k u)

-- Janet: the exponent is the largest among the members that agree with u in the variables before v
abbrev pub janet : Split
janet U k v = asked U k v (largest (agrees (v - 1) (member U k)) U v (member U k))

-- Thomas: the largest among all members
abbrev pub thomas : Split
thomas U k v = asked U k v (largest (λ w. true) U v (member U k))

-- the division that a code names
abbrev pub division_of : ℕ → Option Split
division_of code = cond (code == 1) (Some janet) (cond (code == 2) (Some thomas) None)
