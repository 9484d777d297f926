use Rattle.std.proofs.Common.{◌≡◌, ℕ, ◌<◌, get_or, None}
use Rattle.reduction.specs.declared.table.Row.{Row}
use Rattle.reduction.specs.Search.{DividesAt, NoRow, NoTerm, monomial_at}
use Rattle.reduction.proofs.search.find_reducible.Given as goal

abbrev pub invariant-search : goal.invariant-search
invariant-search l = (l.found ≡ None) × NoTerm l.table l.terms l.i

abbrev pub invariant-row : goal.invariant-row
invariant-row l = (l.found ≡ None) × NoTerm l.table l.terms l.i × NoRow l.table l.k (monomial_at l.terms l.i)

-- the row divides as far as it has been looked at
abbrev pub invariant-loop-v : goal.invariant-loop-v
invariant-loop-v l = (i : ℕ) → i < l.v → (r : Row) → r ≡ get_or l.table l.k r → DividesAt r.lead (monomial_at l.terms l.i) i
