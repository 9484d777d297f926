use Rattle.std.proofs.Common.{◌≡◌, [], length, vec_items}
use Rattle.stored.specs.Record.{file_length}
use Rattle.stored.specs.Stored.{Outcome, Reads}
use Rattle.stored.specs.Rows.{polys}
use Rattle.stored.proofs.rows.read_rows.Given as goal

-- whatever the rest comes to, the whole comes to
abbrev pub invariant-loop-rows : goal.invariant-loop-rows
invariant-loop-rows g l = record {
  comes : (o : Outcome) → Reads (g.F.Field.meaning l.ring.field) (g.O.Order.meaning l.ring.order) l.ring.variables (file_length l.records) (polys (vec_items l.rows)) l.rest.bytes.now o
      → Reads (g.F.Field.meaning l.ring.field) (g.O.Order.meaning l.ring.order) l.ring.variables (file_length l.records) [] l.records.bytes.now o;
  file : file_length l.rest ≡ file_length l.records;
}

abbrev pub decreases-loop-rows : goal.decreases-loop-rows
decreases-loop-rows g l = length l.rest.bytes.now
