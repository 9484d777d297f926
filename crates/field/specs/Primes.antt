-- The primes up to 251, and the field of the integers modulo one of them.
use Rattle.std.specs.Prelude.{◌≡◌, ℕ, ◌+◌, ◌-◌, ◌*◌, ◌%◌, ◌^◌, ◌<◌, ◌≤◌, Bool, true, false, cond, List, [], ◌∷◌, ◌==◌, ◌≢◌}
use Rattle.field.specs.Field.{FieldMeaning}

abbrev pub stands_in : ℕ → List ℕ → Bool
stands_in p [] = false
stands_in p (x ∷ xs) = cond (p == x) true (stands_in p xs)

abbrev pub primes : List ℕ
primes = 2 ∷ 3 ∷ 5 ∷ 7 ∷ 11 ∷ 13 ∷ 17 ∷ 19 ∷ 23 ∷ 29 ∷ 31 ∷ 37 ∷ 41 ∷ 43 ∷ 47 ∷ 53 ∷ 59 ∷ 61 ∷ 67 ∷ 71 ∷ 73 ∷ 79 ∷ 83 ∷ 89 ∷ 97 ∷ 101 ∷ 103 ∷ 107 ∷ 109 ∷ 113 ∷ 127 ∷ 131 ∷ 137 ∷ 139 ∷ 149 ∷ 151 ∷ 157 ∷ 163 ∷ 167 ∷ 173 ∷ 179 ∷ 181 ∷ 191 ∷ 193 ∷ 197 ∷ 199 ∷ 211 ∷ 223 ∷ 227 ∷ 229 ∷ 233 ∷ 239 ∷ 241 ∷ 251 ∷ []

unfoldable pub listed : ℕ → Bool
listed p = stands_in p primes

-- no number from 2 below p divides p
abbrev pub PrimeUpTo251 : ℕ → Type 0
PrimeUpTo251 p = (2 ≤ p) × (p ≤ 251) × ((d : ℕ) → 2 ≤ d → d < p → p % d ≢ 0)

-- the list holds these primes and nothing else
abbrev pub ListedAreThePrimes : Type 0
ListedAreThePrimes = (p : ℕ) → (listed p ≡ true → PrimeUpTo251 p) × (PrimeUpTo251 p → listed p ≡ true)

abbrev pub prime_meaning : ℕ → FieldMeaning
prime_meaning p = record {
  q = p;
  add = λ a b. (a + b) % p;
  neg = λ a. (p - a) % p;
  mul = λ a b. (a * b) % p;
  inv = λ a. (a ^ (p - 2)) % p;
}
