-- Words of the crate's own functions; no public contract cites them.
use Rattle.std.specs.Prelude.{◌≡◌, ℕ, ◌<◌, List, [], ◌∷◌, ◌++◌, map, length, Some, None, Ok, Err, vec_items, Option, Result, Vec}
use Rattle.std.specs.declared.alloc.Global.{Global}
use Rattle.field.specs.Field.{FieldMeaning}
use Rattle.monomial.specs.Order.{Compare}
use Rattle.polynomial.specs.Polynomial.{Poly, leading}
use Rattle.stored.specs.declared.fault.Fault.{Fault}
use Rattle.stored.specs.declared.fault.Fault.TheVariants.{Bad, Memory}
use Rattle.stored.specs.declared.fault.Reason.{Reason}
use Rattle.stored.specs.declared.rest.Rest.{Rest}
use Rattle.stored.specs.declared.row.Row.{Row}
use Rattle.stored.specs.Record.{file_length}
use Rattle.stored.specs.Stored.{Outcome, rows, bad, row_fault, Reads}

-- the polynomials that the rows own
abbrev pub polys : List Row → List Poly
polys rs = map (λ r. vec_items r.terms) rs

-- the answer to the fault that there is
abbrev pub IsFine : Option Reason → Result (Unit {0}) Reason → Type 0
IsFine o (Ok x) = o ≡ None
IsFine o (Err why) = o ≡ Some why

-- a fault that reading comes to; want of memory says nothing
abbrev pub Fails : (Outcome → Type 0) → Fault → Type 0
Fails comes (Bad why at) = comes (bad why at)
Fails comes Memory = Unit {0}

module _ (F : FieldMeaning) (O : Compare) (n : ℕ) where
  -- the row that a polynomial is behind the rows before it, or why it is none
  abbrev pub ChecksRow : List Poly → Poly → Result Row Reason → Type 0
  ChecksRow before f (Ok row) = (row_fault F O n (map leading before) f ≡ None) × (vec_items row.terms ≡ f)
  ChecksRow before f (Err why) = row_fault F O n (map leading before) f ≡ Some why

  -- the row stands at the front: what the file comes to behind it, it comes to here
  pub record IsFound (before : List Poly) (rest : Rest) (row : Row) (behind : Rest) : Type 0 where
    pub comes : (o : Outcome) → Reads F O n (file_length rest) (before ++ (vec_items row.terms ∷ [])) behind.bytes.now o → Reads F O n (file_length rest) before rest.bytes.now o
    pub file : file_length behind ≡ file_length rest
    pub shorter : length behind.bytes.now < length rest.bytes.now

  -- the row at the front, nothing at the end of the file, or what the file comes to
  abbrev pub ReadsRow : List Poly → Rest → Result (Option (Row × Rest)) Fault → Type 0
  ReadsRow before rest (Ok None) = rest.bytes.now ≡ []
  ReadsRow before rest (Ok (Some found)) = IsFound before rest found.0 found.1
  ReadsRow before rest (Err e) = Fails (Reads F O n (file_length rest) before rest.bytes.now) e

abbrev pub ReadsRows : (Outcome → Type 0) → Result (Vec Row Global) Fault → Type 0
ReadsRows comes (Ok rs) = comes (rows (polys (vec_items rs)))
ReadsRows comes (Err e) = Fails comes e
