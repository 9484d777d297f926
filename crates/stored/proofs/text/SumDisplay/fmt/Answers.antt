use Rattle.std.proofs.Common.{◌-◌, ◌<◌, [], ◌++◌, length, get_or, take, drop, codes, sym, ap, ◌∙◌, arith, rules, ltb-false}
use Rattle.std.proofs.Output.{has_written_append, has_written_of_eq}
use Rattle.std.proofs.lemmas.List.{at_drop_all, take_rest}
use Rattle.std.specs.Fmt.{HasWritten}
use Rattle.polynomial.specs.Polynomial.{term}
use Rattle.stored.specs.Text.{term_text, behind_text}
use Rattle.stored.proofs.Texts.{behind_from, poly_pieces}
use Rattle.stored.proofs.Writing.{one_more, all_written}
use Rattle.stored.proofs.text.SumDisplay.fmt.Goals as goal

pub loop-term-preserved : goal.loop-term-preserved
loop-term-preserved g c = λ p.
    let all = c.args.self.now.0.now in
    let left = c.loop-term.invariant p in
    let plain = left.written.plain in
    let f = take (length all - 1) (drop 1 all) in
    let i = c.loop-term.term-index in
    one_more (codes " + " ++ term_text (get_or f i (term 0 []))) (behind_from f i (term 0 []) c.loop-term-test.true) left (search rules)

pub returns-clause-writes : goal.returns-clause-writes
returns-clause-writes g c = λ p ok.
    let all = c.args.self.now.0.now in
    let some : 0 < length all = omega (arith, ltb-false) in
    let first : HasWritten g.W.Write.write_str_gives c.args.f.now (term_text (get_or all 0 (term 0 []))) c.write-2.new.self = search rules in
    let behind = all_written (at_drop_all behind_text (take (length all - 1) (drop 1 all)) c.loop-term.term-index c.loop-term-test.false) (c.loop-term.invariant first.plain) in
    has_written_of_eq _ _ _ _ _ (ap (λ x. term_text (get_or all 0 (term 0 [])) ++ behind_text x) (take_rest all 1) ∙ sym (poly_pieces all (term 0 []) some)) (has_written_append _ _ _ _ _ _ first behind)
