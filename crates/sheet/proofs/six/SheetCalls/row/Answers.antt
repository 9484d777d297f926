use Rattle.std.proofs.Common.{◌≡◌, length, vec_items, vec_len, sym, ◌∙◌, arith, rules}
use Rattle.monomial.specs.Division.{Within}
use Rattle.involutive.specs.Answers.{row_absent}
use Rattle.involutive.specs.Log.{After}
use Rattle.reduction.proofs.Lines.{row_at}
use Rattle.sheet.proofs.Puttings.{shows_put, has_row, no_row}
use Rattle.sheet.proofs.six.SheetCalls.row.Goals as goal

pub returns-then-number-eq0-clause-answer : goal.returns-then-number-eq0-clause-answer
returns-then-number-eq0-clause-answer g c =
    let rows = vec_items c.args.self.now.table.rows in
    let z : vec_len c.args.self.now.table.rows ≡ length rows = search rules in
    let o : Within c.args.number (length rows) → ⊥ = search rules in
    row_absent (no_row rows c.args.number o)

pub returns-then-number-eq0-clause-logged : goal.returns-then-number-eq0-clause-logged
returns-then-number-eq0-clause-logged g c calls gs a = After.shown a (returns-then-number-eq0-clause-answer g c)

pub returns-clause-answer : goal.returns-clause-answer
returns-clause-answer g c =
    let rows = vec_items c.args.self.now.table.rows in
    let n = c.args.number in
    let z : vec_len c.args.self.now.table.rows ≡ length rows = search rules in
    let w : Within n (length rows) = (omega arith, omega arith) in
    shows_put n (has_row rows n w) c.put.result (c.as_slice.ensures.value ∙ sym (row_at rows n w c.index.result.now c.index.ensures)) c.put.ensures

pub returns-clause-logged : goal.returns-clause-logged
returns-clause-logged g c calls gs a = After.shown a (returns-clause-answer g c)
