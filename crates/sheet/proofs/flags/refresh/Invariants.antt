use Rattle.std.proofs.Common.{◌≡◌, ℕ, suc, ◌<◌, [], map, get_or}
use Rattle.monomial.specs.Lists.{exponents_of}
use Rattle.reduction.specs.Table.{table_of}
use Rattle.sheet.specs.Rows.{lead_of, flags_of, Asked}
use Rattle.sheet.proofs.flags.refresh.Given as goal

abbrev pub invariant-loop-i : goal.invariant-loop-i
invariant-loop-i g l = (table_of l.rows ≡ table_of l.initial.rows) × (map lead_of l.rows ≡ map lead_of l.initial.rows) × ((j : ℕ) → j < l.i → Asked (g.D.Division.meaning l.division) (exponents_of l.list) (suc j) (get_or (map flags_of l.rows) j []))
