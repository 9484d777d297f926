use Rattle.std.proofs.Common.{suc, ◌+◌, length, vec_items, rules}
use Rattle.std.proofs.Output.{has_written_append}
use Rattle.std.proofs.lemmas.List.{at_drop_all}
use Rattle.std.specs.Fmt.{HasWritten}
use Rattle.monomial.specs.Lists.{exponents_of}
use Rattle.stored.specs.Rows.{polys}
use Rattle.stored.specs.Text.{row_text, rows_text, setting_text}
use Rattle.stored.proofs.Texts.{rows_from}
use Rattle.stored.proofs.Writing.{one_more, all_written}
use Rattle.stored.proofs.text.TableDisplay.fmt.Goals as goal

pub loop-i-preserved : goal.loop-i-preserved
loop-i-preserved g c = λ p.
    let t = c.args.self.now in
    let left = c.loop-i.invariant p in
    let plain = left.written.plain in
    let D = g.D.Division.meaning t.division.now in
    let U = exponents_of t.leaders.now in
    let n = t.operands.variables in
    let r = c.row-item.result in
    one_more (row_text D U n (c.loop-i.i + 1) (vec_items r.terms)) (rows_from D U n t.rows.now c.loop-i.i r c.loop-i-test.true c.row-item.is) left (search rules)

pub returns-clause-writes : goal.returns-clause-writes
returns-clause-writes g c = λ p ok.
    let t = c.args.self.now in
    let s = t.operands in
    let rest = rows_text (g.D.Division.meaning t.division.now) (exponents_of t.leaders.now) s.variables (suc c.loop-i.i) in
    let first : HasWritten g.W.Write.write_str_gives c.args.f.now (setting_text s.modulus s.variables s.order s.division (length t.rows.now)) c.write.new.self = search rules in
    has_written_append _ _ _ _ _ _ first (all_written (at_drop_all (λ qs. rest (polys qs)) t.rows.now c.loop-i.i c.loop-i-test.false) (c.loop-i.invariant first.plain))
