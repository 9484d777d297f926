-- The parts of rows, and what asking a division anew leaves of them.
use Rattle.std.specs.Prelude.{◌≡◌, ℕ, suc, ◌<◌, Bool, false, List, [], ◌∷◌, ◌++◌, map, length, slice_index_or}
use Rattle.std.specs.Option.{unwrap_or}
use Rattle.monomial.specs.Monomial.{width}
use Rattle.monomial.specs.Division.{Split}
use Rattle.polynomial.specs.Polynomial.{Poly}
use Rattle.reduction.specs.declared.table.Row.{Row}
use Rattle.reduction.specs.Table.{table_of}

abbrev pub lead_of : Row → List ℕ
lead_of r = r.lead.monomial.exponents

abbrev pub flags_of : Row → List Bool
flags_of r = r.lead.multiplicative

-- the flags are what the division says of member k, and false where it does not answer
abbrev pub Asked : Split → List (List ℕ) → ℕ → List Bool → Type 0
Asked D U k flags = (i : ℕ) → i < width → slice_index_or flags i false ≡ unwrap_or (D U k (suc i)) false

-- the same terms and leading monomials, and the flags that the division gives over the list U
pub record Refreshed (D : Split) (U : List (List ℕ)) (old new : List Row) : Type 0 where
  pub terms : table_of new ≡ table_of old
  pub leads : map lead_of new ≡ map lead_of old
  pub asked : (i : ℕ) → i < length old → Asked D U (suc i) (slice_index_or (map flags_of new) i [])

-- one row more, with these terms and this leading monomial, and every row's flags asked over the new leading monomials
pub record Appended (D : Split) (f : Poly) (m : List ℕ) (old new : List Row) : Type 0 where
  pub terms : table_of new ≡ table_of old ++ (f ∷ [])
  pub leads : map lead_of new ≡ map lead_of old ++ (m ∷ [])
  pub asked : (i : ℕ) → i < length new → Asked D (map lead_of new) (suc i) (slice_index_or (map flags_of new) i [])
