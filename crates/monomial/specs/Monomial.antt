-- A monomial is its exponents, one to a variable. The definitions put no limit on an exponent.
use Rattle.std.specs.Prelude.{◌≡◌, ℕ, ◌+◌, ◌-◌, ◌<◌, ◌≤◌, Bool, true, false, ◌&&◌, List, [], ◌∷◌, length, replicate, ◌==◌, slice_index, slice_set}

-- how many exponents a monomial has
abbrev pub width : ℕ
width = 6

abbrev pub Wide : List ℕ → Type 0
Wide m = length m ≡ width

-- the exponent of variable v, which counts from 1
abbrev pub exponent : List ℕ → ℕ → ℕ
exponent m v = slice_index m (v - 1)

-- a monomial in the variables 1 to n: those above are absent
pub record In (n : ℕ) (m : List ℕ) : Type 0 where
  pub wide : Wide m
  pub absent : (v : ℕ) → n < v → exponent m v ≡ 0

-- no exponent is above the bound
abbrev pub Bounded : ℕ → List ℕ → Type 0
Bounded bound m = (v : ℕ) → exponent m v ≤ bound

abbrev pub same : List ℕ → List ℕ → Bool
same [] [] = true
same [] (e ∷ m) = false
same (d ∷ u) [] = false
same (d ∷ u) (e ∷ m) = d == e && same u m

abbrev pub one : List ℕ
one = replicate width 0

-- the variable v by itself
abbrev pub variable : ℕ → List ℕ
variable v = slice_set one (v - 1) 1

abbrev pub degree : List ℕ → ℕ
degree [] = 0
degree (e ∷ m) = e + degree m

abbrev pub times : List ℕ → List ℕ → List ℕ
times [] m = []
times (d ∷ u) [] = []
times (d ∷ u) (e ∷ m) = (d + e) ∷ times u m

abbrev pub Divides : List ℕ → List ℕ → Type 0
Divides u m = (v : ℕ) → exponent u v ≤ exponent m v

-- m / u, where u divides m
abbrev pub quotient : List ℕ → List ℕ → List ℕ
quotient [] u = []
quotient (e ∷ m) [] = []
quotient (e ∷ m) (d ∷ u) = (e - d) ∷ quotient m u
