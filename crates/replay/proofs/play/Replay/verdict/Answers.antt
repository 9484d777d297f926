use Rattle.std.proofs.Common.{◌∙◌, rules}
use Rattle.replay.proofs.Acting.{made_then, told_as, judged_line, acts_verdict}
use Rattle.replay.proofs.play.Replay.verdict.Goals as goal

pub returns : goal.returns
returns g c =
    let line = c.answered.ensures ∙ judged_line c.args.at 7 c.verdict.result c.map-answer.result _ c.map-answer.ensures.cases (λ x n p. search rules) in
    record { acts = made_then c.write_to.result c.write_to.ensures (λ _ t. acts_verdict (told_as _ t line) c.verdict.ensures.answer) }
