-- What is done under the field, the order and the division that a sheet command names.
use Rattle.std.specs.Prelude.{◌≡◌, ℕ, ◌+◌, ◌*◌, Bool, true, false, ◌&&◌, List, Some, None, Ok, Err, Option, Result, nat_le, slice_index}
use Rattle.field.specs.Field.{FieldMeaning}
use Rattle.field.specs.Kinds.{field_of}
use Rattle.monomial.specs.Monomial.{width}
use Rattle.monomial.specs.Order.{Compare, order_of}
use Rattle.monomial.specs.Division.{Split, division_of}
use Rattle.choice.specs.declared.operands.Operands.{Operands}
use Rattle.choice.specs.declared.unnamed.Unnamed.{Unnamed}
use Rattle.choice.specs.declared.unnamed.Unnamed.TheVariants.{Field, Variables, Order, Division}

-- the operands in the six bytes behind the command's own; the modulus has its high byte first
abbrev pub operands_of : List ℕ → Operands
operands_of bytes = record {
  kind = slice_index bytes 0;
  modulus = slice_index bytes 1 * 256 + slice_index bytes 2;
  variables = slice_index bytes 3;
  order = slice_index bytes 4;
  division = slice_index bytes 5;
}

-- there are 1 to 6 variables
abbrev pub has_variables : ℕ → Bool
has_variables n = nat_le 1 n && nat_le n width

-- what is given under field, order and division in n variables, or the first of the four that is not there
abbrev pub Chosen : {Done : Type 0} → (FieldMeaning → Compare → Split → ℕ → Done → Type 0) → ℕ → Option FieldMeaning → Bool → Option Compare → Option Split → Result Done Unnamed → Type 0
Chosen gives n None within order division r = r ≡ Err Field
Chosen gives n (Some F) false order division r = r ≡ Err Variables
Chosen gives n (Some F) true None division r = r ≡ Err Order
Chosen gives n (Some F) true (Some O) None r = r ≡ Err Division
Chosen {Done} gives n (Some F) true (Some O) (Some D) r = (done : Done) × (r ≡ Ok done) × gives F O D n done

-- the same for what the operands name
abbrev pub Chooses : {Done : Type 0} → (FieldMeaning → Compare → Split → ℕ → Done → Type 0) → Operands → Result Done Unnamed → Type 0
Chooses gives s r =
    Chosen gives s.variables (field_of s.kind s.modulus) (has_variables s.variables) (order_of s.order) (division_of s.division) r
