use Rattle.std.proofs.Common.{◌≡◌, ◌≤◌, length, vec_items, arith}
use Rattle.reduction.proofs.Loading.{tail_loaded}
use Rattle.reduction.proofs.rows.Rows.reduce_tail.Goals as goal

pub reduce_within-requires : goal.reduce_within-requires
reduce_within-requires g c =
    let x = c.args.self.now in
    let w : (1 ≤ c.args.row) × (c.args.row ≤ length x.rows.now) = (omega arith, omega arith) in
    let t = tail_loaded x.agrees c.args.row w c.index-self-row.result c.index-self-row.is c.as_slice.result.now _ (vec_items c.load.new.self.rest.terms) c.load.result c.as_slice.ensures.value c.load.ensures in
    let r : c.new.result.terms ≡ 39 = c.new.ensures in
    rw (t.is, r) (record { acceptable = t.acceptable; room = t.short })

pub returns-clause-answer : goal.returns-clause-answer
returns-clause-answer g c =
    let x = c.args.self.now in
    let w : (1 ≤ c.args.row) × (c.args.row ≤ length x.rows.now) = (omega arith, omega arith) in
    let t = tail_loaded x.agrees c.args.row w c.index-self-row.result c.index-self-row.is c.as_slice.result.now _ (vec_items c.load.new.self.rest.terms) c.load.result c.as_slice.ensures.value c.load.ensures in
    let r : c.new.result.terms ≡ 39 = c.new.ensures in
    rw (t.is, r) at c.reduce_within.ensures
