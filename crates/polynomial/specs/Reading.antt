-- Reading bytes as terms: what is read is what would be written.
use Rattle.std.specs.Prelude.{◌≡◌, ℕ, ◌<◌, List, ◌++◌, length, Some, None, Ok, Err, vec_items, Option, Result, Vec, slice_index}
use mathlib.Core.List.{Memᴰ}
use Rattle.std.specs.Borrow.{Bor}
use Rattle.std.specs.declared.alloc.Global.{Global}
use Rattle.monomial.specs.Monomial.{Wide}
use Rattle.polynomial.specs.declared.term.Term.{Term}
use Rattle.polynomial.specs.declared.bytes.Cut.{Cut}
use Rattle.polynomial.specs.declared.bytes.NoRun.{NoRun}
use Rattle.polynomial.specs.declared.bytes.NoRun.TheVariants.{Cut as CutAt, Memory}
use Rattle.polynomial.specs.Polynomial.{Poly, exponents}
use Rattle.polynomial.specs.Bytes.{term_bytes, poly_bytes}

-- the bytes do not begin with the byte of a term
abbrev pub StartsNoTerm : List ℕ → Type 0
StartsNoTerm bytes = slice_index bytes 0 ≡ 1 → ⊥

-- they do, and end inside it
abbrev pub EndsInside : List ℕ → Type 0
EndsInside bytes = (slice_index bytes 0 ≡ 1) × (length bytes < 9)

-- the term at the front, and what stands behind it
abbrev pub ReadsTerm : List ℕ → Result (Option (Term × Bor (List ℕ))) Cut → Type 0
ReadsTerm bytes (Ok (Some p)) = Wide (exponents p.0) × (bytes ≡ term_bytes p.0 ++ p.1.now)
ReadsTerm bytes (Ok None) = StartsNoTerm bytes
ReadsTerm bytes (Err cut) = EndsInside bytes

-- each term has all its exponents
abbrev pub Wides : Poly → Type 0
Wides f = (t : Term) → Memᴰ t f → Wide (exponents t)

-- the terms of f stand at the front, and the rest begins with no term
pub record IsRun (bytes : List ℕ) (f : Poly) (rest : List ℕ) : Type 0 where
  pub wide : Wides f
  pub written : bytes ≡ poly_bytes f ++ rest
  pub ends : StartsNoTerm rest

-- the bytes end inside a term, which begins at that offset
pub record IsCut (bytes : List ℕ) (offset : ℕ) : Type 0 where
  pub terms : Poly
  pub wide : Wides terms
  pub rest : List ℕ
  pub written : bytes ≡ poly_bytes terms ++ rest
  pub place : offset ≡ length (poly_bytes terms)
  pub ends : EndsInside rest

-- a run and the bytes behind it
abbrev pub Run : Type 0
Run = Vec Term Global × Bor (List ℕ)

abbrev pub ReadsRun : List ℕ → Result Run NoRun → Type 0
ReadsRun bytes (Ok run) = IsRun bytes (vec_items run.0) run.1.now
ReadsRun bytes (Err (CutAt offset)) = IsCut bytes offset
ReadsRun bytes (Err Memory) = Unit {0}

-- a run that stands in the bytes is the one that is read
abbrev pub ReadsBack : Result Run NoRun → Poly → List ℕ → Type 0
ReadsBack (Ok run) f rest = (vec_items run.0 ≡ f) × (run.1.now ≡ rest)
ReadsBack (Err (CutAt offset)) f rest = ⊥
ReadsBack (Err Memory) f rest = Unit {0}
