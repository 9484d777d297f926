-- Every setting that a sheet command can make is lawful.
use Rattle.std.proofs.Common.{◌≡◌, ℕ, Bool, true, false, cond, ◌&&◌, eqb, leb, List, get_or, Some, None, Option, refl, subst}
use Rattle.std.proofs.lemmas.Bool.{and_parts, leb-true}
use Rattle.field.specs.Field.{FieldMeaning, FieldLaws}
use Rattle.field.specs.Kinds.{field_of}
use Rattle.field.specs.Primes.{listed, prime_meaning}
use Rattle.field.specs.Four.{four_meaning}
use Rattle.field.specs.PrimeLaws.{prime_laws}
use Rattle.field.specs.FourLaws.{four_laws}
use Rattle.monomial.specs.Monomial.{width}
use Rattle.monomial.specs.Order.{Compare, OrderLaws, order_of, lexicographic, degree_lexicographic, degree_reverse}
use Rattle.monomial.specs.Division.{Split, DivisionLaws, Within, division_of, janet, thomas}
use Rattle.monomial.specs.Orders.{lexicographic_laws, degree_lexicographic_laws, degree_reverse_laws}
use Rattle.monomial.specs.Divisions.{janet_laws, thomas_laws}
use Rattle.involutive.specs.Sheet.{Setting, Lawful}
use Rattle.replay.specs.Words.{word}
use Rattle.replay.specs.Replay.{Making, granted, refused, with_division, with_order, with_field, making}

-- what is named, if anything, is of this kind
abbrev IfAny : {A : Type 0} → (A → Type 0) → Option A → Type 0
IfAny P (Some a) = P a
IfAny P None = Unit {0}

-- a test chooses between two things of one kind
chosen : {A : Type 0} (P : A → Type 0) (b : Bool) (x y : A) → (b ≡ true → P x) → P y → P (cond b x y)
chosen P true x y p q = p refl
chosen P false x y p q = q

field_lawful : (kind modulus : ℕ) → IfAny FieldLaws (field_of kind modulus)
field_lawful kind modulus =
    chosen (IfAny FieldLaws) (eqb kind 1) _ _
    (λ _. chosen (IfAny FieldLaws) (listed modulus) (Some (prime_meaning modulus)) None (λ l. prime_laws modulus l) tt)
    (chosen (IfAny FieldLaws) (eqb kind 2 && eqb modulus 4) (Some four_meaning) None (λ _. four_laws) tt)

order_lawful : (code : ℕ) → IfAny OrderLaws (order_of code)
order_lawful code =
    chosen (IfAny OrderLaws) (eqb code 1) (Some lexicographic) _ (λ _. lexicographic_laws)
    (chosen (IfAny OrderLaws) (eqb code 2) (Some degree_lexicographic) _ (λ _. degree_lexicographic_laws)
    (chosen (IfAny OrderLaws) (eqb code 3) (Some degree_reverse) None (λ _. degree_reverse_laws) tt))

division_lawful : (code : ℕ) → IfAny DivisionLaws (division_of code)
division_lawful code =
    chosen (IfAny DivisionLaws) (eqb code 1) (Some janet) _ (λ _. janet_laws)
    (chosen (IfAny DivisionLaws) (eqb code 2) (Some thomas) None (λ _. thomas_laws) tt)

abbrev IfMade : Making → Type 0
IfMade (granted S) = Lawful S
IfMade (refused n) = Unit {0}

made_with_division : (F : FieldMeaning) (n : ℕ) (O : Compare) (D : Option Split) → FieldLaws F → Within n width → OrderLaws O → IfAny DivisionLaws D → IfMade (with_division F n O D)
made_with_division F n O (Some D) f v o d = record { field = f; order = o; division = d; variables = v }
made_with_division F n O None f v o d = tt

made_with_order : (F : FieldMeaning) (n : ℕ) (O : Option Compare) (d : ℕ) → FieldLaws F → Within n width → IfAny OrderLaws O → IfMade (with_order F n O d)
made_with_order F n (Some O) d f v o = made_with_division F n O (division_of d) f v o (division_lawful d)
made_with_order F n None d f v o = tt

made_with_field : (F : Option FieldMeaning) (n o d : ℕ) → IfAny FieldLaws F → IfMade (with_field F n o d)
made_with_field (Some F) n o d f = chosen IfMade (leb 1 n && leb n width) (with_order F n (order_of o) d) (refused 2)
    (λ t. let p = and_parts (leb 1 n) (leb n width) t in made_with_order F n (order_of o) d f (leb-true 1 n p.0, leb-true n width p.1) (order_lawful o)) tt
made_with_field None n o d f = tt

pub made_lawful : (ops : List ℕ) (S : Setting) → making ops ≡ granted S → Lawful S
made_lawful ops S e = subst IfMade e (made_with_field (field_of kind modulus) (get_or ops 3 0) (get_or ops 4 0) (get_or ops 5 0) (field_lawful kind modulus))
  where
    kind : ℕ
    kind = get_or ops 0 0

    modulus : ℕ
    modulus = word (get_or ops 1 0) (get_or ops 2 0)
