-- Reducing a polynomial by a table, one action at a time, and where an action is denied.
use Rattle.std.specs.Prelude.{ℕ, ◌-◌, ◌<◌, ◌≤◌, List, [], map, length, slice_index_or}
use mathlib.Core.List.{Memᴰ}
use Rattle.field.specs.Field.{FieldMeaning}
use Rattle.monomial.specs.Monomial.{quotient}
use Rattle.monomial.specs.Order.{Compare, Under}
use Rattle.monomial.specs.Division.{Split, Involutive}
use Rattle.polynomial.specs.declared.term.Term.{Term}
use Rattle.polynomial.specs.Polynomial.{Poly, Written, exponents, leading}
use Rattle.polynomial.specs.Check.{Fits}
use Rattle.involutive.specs.Value.{Equal, scaled, minus}

-- rows, numbered from 1
abbrev pub Table : Type 0
Table = List Poly

abbrev pub row : Table → ℕ → Poly
row T k = slice_index_or T (k - 1) []

abbrev pub leaders : Table → List (List ℕ)
leaders T = map leading T

-- why a call is denied: a number, and the place where a check failed
pub record Refusal : Type 0 where
  pub number : ℕ
  pub place : ℕ

abbrev pub refuse : ℕ → ℕ → Refusal
refuse n p = record { number = n; place = p }

-- what reducing comes to: what is left, or a refusal
pub data Outcome : Type 0 where
  left : Poly → Outcome
  refused : Refusal → Outcome

module _ (F : FieldMeaning) (O : Compare) (D : Split) (n : ℕ) (T : Table) where
  -- t is the greatest term of h that has an involutive divisor, and row k is that divisor
  pub record Reducible (h : Poly) (t : Term) (k : ℕ) : Type 0 where
    pub stands : Memᴰ t h
    pub divisor : Involutive D (leaders T) k (exponents t)
    pub greatest : (s : Term) → Memᴰ s h → Under O (exponents t) (exponents s) → (j : ℕ) → Involutive D (leaders T) j (exponents s) → ⊥

  -- no term of h has an involutive divisor
  abbrev pub Irreducible : Poly → Type 0
  Irreducible h = (t : Term) → Memᴰ t h → (k : ℕ) → Involutive D (leaders T) k (exponents t) → ⊥

  -- c (m / leading monomial of row k) row k, where c and m are the term's
  abbrev pub multiple : Term → ℕ → Poly
  multiple t k = scaled F t.coefficient (quotient (exponents t) (leading (row T k))) (row T k)

  -- g is h − f, written down
  pub record Difference (h f g : Poly) : Type 0 where
    pub written : Written F O n g
    pub value : Equal F g (minus F h f)

  -- what reducing h comes to, if a polynomial may have `room` terms
  pub data Reduces (room : ℕ) : Poly → Outcome → Type 0 where
    done : {h : Poly} → Irreducible h → Reduces room h (left h)
    wide : {h : Poly} {t : Term} {k : ℕ} → Reducible h t k → (Fits (multiple t k) → ⊥) → Reduces room h (refused (refuse 9 k))
    long : {h g : Poly} {t : Term} {k : ℕ} → Reducible h t k → Fits (multiple t k) → Difference h (multiple t k) g → room < length g → Reduces room h (refused (refuse 10 k))
    acts : {h g : Poly} {t : Term} {k : ℕ} {o : Outcome} → Reducible h t k → Fits (multiple t k) → Difference h (multiple t k) g → length g ≤ room → Reduces room g o → Reduces room h o
