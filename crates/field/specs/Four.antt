-- The field of four elements 0, 1, 2 and 3: the sum goes bit by bit, and products and inverses stand in tables.
use Rattle.std.specs.Prelude.{ℕ, ◌+◌, ◌*◌, List, [], ◌∷◌, slice_index}
use Rattle.std.specs.Int.Bits.{bit_xor}
use Rattle.field.specs.Field.{FieldMeaning}

-- a row for each a, with a * 0, a * 1, a * 2 and a * 3
abbrev pub products : List ℕ
products =
    0 ∷ 0 ∷ 0 ∷ 0 ∷
    0 ∷ 1 ∷ 2 ∷ 3 ∷
    0 ∷ 2 ∷ 3 ∷ 1 ∷
    0 ∷ 3 ∷ 1 ∷ 2 ∷ []

-- of 1, 2 and 3; at 0 stands no inverse
abbrev pub inverses : List ℕ
inverses = 0 ∷ 1 ∷ 3 ∷ 2 ∷ []

abbrev pub four_meaning : FieldMeaning
four_meaning = record {
  q = 4;
  add = bit_xor;
  neg = λ a. a;
  mul = λ a b. slice_index products (4 * a + b);
  inv = λ a. slice_index inverses a;
}
