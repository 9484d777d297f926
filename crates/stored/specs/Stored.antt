-- A stored table: a sheet command, then records, each a row's terms closed by 02. What reading it comes to.
use Rattle.std.specs.Prelude.{◌≡◌, ℕ, ◌+◌, ◌-◌, ◌*◌, ◌/◌, ◌%◌, ◌<◌, Bool, false, cond, ◌||◌, List, [], ◌∷◌, ◌++◌, map, length, Some, None, Ok, Err, string_bytes, Option, Result, String, ◌==◌, ◌≢◌, nat_lt}
use Rattle.std.specs.declared.alloc.Global.{Global}
use Rattle.field.specs.Field.{FieldMeaning}
use Rattle.field.specs.Kinds.{field_of}
use Rattle.monomial.specs.Monomial.{same, width}
use Rattle.monomial.specs.Order.{Compare, order_of}
use Rattle.monomial.specs.Division.{Split, Within, division_of}
use Rattle.polynomial.specs.declared.refusal.Refusal.{Refusal}
use Rattle.polynomial.specs.Polynomial.{Poly, exponents, leading}
use Rattle.polynomial.specs.Check.{fault, place}
use Rattle.polynomial.specs.Reading.{IsRun, IsCut}
use Rattle.choice.specs.declared.unnamed.Unnamed.TheVariants.{Field, Variables, Order, Division}
use Rattle.stored.specs.declared.fault.Reason.{Reason}
use Rattle.stored.specs.declared.fault.Reason.TheVariants.{NoSheet, Unnamed, CutTerm, OpenRecord, OtherByte, TooManyRows, Refused, Zero, NotMonic, Repeated}
use Rattle.stored.specs.declared.fault.Fault.{Fault}
use Rattle.stored.specs.declared.fault.Fault.TheVariants.{Bad, Memory}
use Rattle.stored.specs.Text.{table_text}

-- what reading comes to: the rows, or what is wrong and at which offset
pub data Outcome : Type 0 where
  rows : List Poly → Outcome
  bad : Reason → ℕ → Outcome

-- m stands in the list
abbrev pub among : List ℕ → List (List ℕ) → Bool
among m [] = false
among m (u ∷ U) = same u m || among m U

-- why a polynomial that passed its checks is no row behind rows with these leading monomials
abbrev pub leading_fault : List (List ℕ) → Poly → Option Reason
leading_fault U [] = Some Zero
leading_fault U (t ∷ f) = cond (t.coefficient == 1) (cond (among (exponents t) U) (Some Repeated) None) (Some NotMonic)

abbrev pub after_checks : Option Refusal → Option Reason → Option Reason
after_checks (Some r) why = Some (Refused r)
after_checks None why = why

-- how far behind the record's start the fault stands: a refused term stands behind those before it
abbrev pub behind : Reason → ℕ
behind NoSheet = 0
behind (Unnamed u) = 0
behind CutTerm = 0
behind OpenRecord = 0
behind OtherByte = 0
behind TooManyRows = 0
behind (Refused r) = (place r - 1) * 9
behind Zero = 0
behind NotMonic = 0
behind Repeated = 0

-- no record stands at the front of the bytes; the fault is k bytes behind
pub data NoRecord (bytes : List ℕ) : Reason → ℕ → Type 0 where
  cut : {k : ℕ} → IsCut bytes k → NoRecord bytes CutTerm k
  open_end : {f : Poly} → IsRun bytes f [] → NoRecord bytes OpenRecord (length bytes)
  other : {f : Poly} {b : ℕ} {rest : List ℕ} → IsRun bytes f (b ∷ rest) → (b ≢ 2) → NoRecord bytes OtherByte (length bytes - length (b ∷ rest))

module _ (F : FieldMeaning) (O : Compare) (n : ℕ) where
  -- why a record's polynomial is no row behind rows with these leading monomials
  abbrev pub row_fault : List (List ℕ) → Poly → Option Reason
  row_fault U f = cond (nat_lt (length U) 32) (after_checks (fault F O n f) (leading_fault U f)) (Some TooManyRows)

  -- what the rest of a file of that length comes to, behind the rows before it
  pub data Reads (total : ℕ) : List Poly → List ℕ → Outcome → Type 0 where
    ends : {done : List Poly} → Reads total done [] (rows done)
    row : {done : List Poly} {rest more : List ℕ} {f : Poly} {o : Outcome} → IsRun rest f (2 ∷ more) → row_fault (map leading done) f ≡ None → Reads total (done ++ (f ∷ [])) more o → Reads total done rest o
    no_row : {done : List Poly} {rest more : List ℕ} {f : Poly} {why : Reason} → IsRun rest f (2 ∷ more) → row_fault (map leading done) f ≡ Some why → Reads total done rest (bad why ((total - length rest) + behind why))
    no_record : {done : List Poly} {rest : List ℕ} {why : Reason} {k : ℕ} → 0 < length rest → NoRecord rest why k → Reads total done rest (bad why ((total - length rest) + k))

-- the file opens with this sheet command
abbrev pub Opens : List ℕ → ℕ → ℕ → ℕ → ℕ → ℕ → List ℕ → Type 0
Opens bytes kind modulus n order division rest = (modulus < 65536) × (bytes ≡ 0 ∷ kind ∷ (modulus / 256) ∷ (modulus % 256) ∷ n ∷ order ∷ division ∷ rest)

-- what showing a file comes to: a text, or what is wrong and at which offset
pub data Shown : Type 0 where
  text : List ℕ → Shown
  fault_at : Reason → ℕ → Shown

abbrev pub shown : (List Poly → List ℕ) → Outcome → Shown
shown tells (rows fs) = text (tells fs)
shown tells (bad why at) = fault_at why at

pub data Displays (bytes : List ℕ) : Shown → Type 0 where
  no_sheet : ((kind modulus n order division : ℕ) (rest : List ℕ) → Opens bytes kind modulus n order division rest → ⊥) → Displays bytes (fault_at NoSheet 0)
  no_field : {kind modulus n order division : ℕ} {rest : List ℕ} → Opens bytes kind modulus n order division rest → field_of kind modulus ≡ None → Displays bytes (fault_at (Unnamed Field) 1)
  no_variables : {kind modulus n order division : ℕ} {rest : List ℕ} {F : FieldMeaning} → Opens bytes kind modulus n order division rest → field_of kind modulus ≡ Some F → (Within n width → ⊥) → Displays bytes (fault_at (Unnamed Variables) 4)
  no_order : {kind modulus n order division : ℕ} {rest : List ℕ} {F : FieldMeaning} → Opens bytes kind modulus n order division rest → field_of kind modulus ≡ Some F → Within n width → order_of order ≡ None → Displays bytes (fault_at (Unnamed Order) 5)
  no_division : {kind modulus n order division : ℕ} {rest : List ℕ} {F : FieldMeaning} {O : Compare} → Opens bytes kind modulus n order division rest → field_of kind modulus ≡ Some F → Within n width → order_of order ≡ Some O → division_of division ≡ None → Displays bytes (fault_at (Unnamed Division) 6)
  table : {kind modulus n order division : ℕ} {rest : List ℕ} {F : FieldMeaning} {O : Compare} {D : Split} {o : Outcome} → Opens bytes kind modulus n order division rest → field_of kind modulus ≡ Some F → Within n width → order_of order ≡ Some O → division_of division ≡ Some D →
      Reads F O n (length bytes) [] rest o → Displays bytes (shown (table_text D modulus n order division) o)

-- what a whole file is shown as; want of memory says nothing
abbrev pub TellsFile : (Shown → Type 0) → Result (String Global) Fault → Type 0
TellsFile shows (Ok s) = shows (text (string_bytes s))
TellsFile shows (Err (Bad why at)) = shows (fault_at why at)
TellsFile shows (Err Memory) = Unit {0}
