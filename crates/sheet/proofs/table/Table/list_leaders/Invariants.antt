use Rattle.std.proofs.Common.{◌≡◌, map, take, vec_items, vec_len, vec_capacity}
use Rattle.monomial.specs.Lists.{exponents_of}
use Rattle.sheet.specs.Rows.{lead_of}
use Rattle.sheet.proofs.table.Table.list_leaders.Given as goal

abbrev pub invariant-loop-row : goal.invariant-loop-row
invariant-loop-row l = (vec_len l.leaders ≡ l.row-index) × (vec_capacity l.leaders ≡ vec_capacity l.initial.leaders) × (exponents_of (vec_items l.leaders) ≡ map lead_of (take l.row-index l.row-items))
