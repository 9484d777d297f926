-- The first term that a row divides, by the row's leading monomial and its multiplicative variables.
use Rattle.std.specs.Prelude.{◌≡◌, ℕ, ◌<◌, ◌≤◌, true, false, List, [], length, Some, None, Option, slice_index, slice_index_or}
use Rattle.monomial.specs.Monomial.{width}
use Rattle.polynomial.specs.Polynomial.{Poly, exponents, term}
use Rattle.reduction.specs.declared.table.Lead.{Lead}
use Rattle.reduction.specs.declared.table.Row.{Row}

-- at place i the exponent is at most m's, and where it is smaller the variable is multiplicative
abbrev pub DividesAt : Lead → List ℕ → ℕ → Type 0
DividesAt l m i =
    (slice_index l.monomial.exponents i ≤ slice_index m i)
    × (slice_index l.monomial.exponents i < slice_index m i → slice_index_or l.multiplicative i false ≡ true)

-- the leading monomial is an involutive divisor of m
abbrev pub LeadDivides : Lead → List ℕ → Type 0
LeadDivides l m = (i : ℕ) → i < width → DividesAt l m i

-- none of the first k rows divides m
abbrev pub NoRow : List Row → ℕ → List ℕ → Type 0
NoRow rows k m = (j : ℕ) → j < k → (r : Row) → r ≡ slice_index_or rows j r → LeadDivides r.lead m → ⊥

-- the monomial of term i, counted from 0
abbrev pub monomial_at : Poly → ℕ → List ℕ
monomial_at f i = exponents (slice_index_or f i (term 0 []))

-- none of the first n terms is divided by a row
abbrev pub NoTerm : List Row → Poly → ℕ → Type 0
NoTerm rows f n = (i : ℕ) → i < n → NoRow rows (length rows) (monomial_at f i)

-- row k is the first row that divides m
pub record FirstRow (rows : List Row) (k : ℕ) (m : List ℕ) : Type 0 where
  pub inside : k < length rows
  pub divides : (r : Row) → r ≡ slice_index_or rows k r → LeadDivides r.lead m
  pub before : NoRow rows k m

-- term i is the first that is divided, and row k the first that divides it
abbrev pub Finds : List Row → Poly → Option (ℕ × ℕ) → Type 0
Finds rows f None = NoTerm rows f (length f)
Finds rows f (Some p) = (p.0 < length f) × NoTerm rows f p.0 × FirstRow rows p.1 (monomial_at f p.0)
