-- The field that a kind and a modulus name: kind 1 is a prime field, kind 2 has four elements and the modulus 4.
use Rattle.std.specs.Prelude.{ℕ, cond, ◌&&◌, Some, None, Option, ◌==◌}
use Rattle.field.specs.Field.{FieldMeaning}
use Rattle.field.specs.Primes.{listed, prime_meaning}
use Rattle.field.specs.Four.{four_meaning}

abbrev pub field_of : ℕ → ℕ → Option FieldMeaning
field_of kind modulus =
    cond (kind == 1) (cond (listed modulus) (Some (prime_meaning modulus)) None)
    (cond (kind == 2 && modulus == 4) (Some four_meaning) None)
