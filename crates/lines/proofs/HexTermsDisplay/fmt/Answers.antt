use Rattle.std.proofs.Common.{◌++◌, take, sym, ap, ◌∙◌, rules}
use Rattle.std.proofs.Output.{has_written_append, has_written_of_eq}
use Rattle.polynomial.specs.Bytes.{poly_bytes}
use Rattle.lines.specs.Line.{hexed}
use Rattle.lines.proofs.Hexadecimal.{hexed_term_more}
use Rattle.lines.proofs.HexTermsDisplay.fmt.Goals as goal

pub loop-term-preserved : goal.loop-term-preserved
loop-term-preserved g c = λ p.
    let f = c.args.self.now.0.now in
    let i = c.loop-term.term-index in
    let shown = c.digits.ensures ∙ ap hexed c.term_bytes.ensures in
    let more = ap (λ x. hexed (poly_bytes (take i f)) ++ x) shown ∙ sym (hexed_term_more f i c.loop-term-test.true) in
    has_written_of_eq _ _ _ _ _ more (has_written_append _ _ _ _ _ _ (c.loop-term.invariant p) (search rules))
