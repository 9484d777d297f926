use Rattle.std.proofs.Common.{◌++◌, ap, ◌∙◌}
use Rattle.lines.specs.Line.{line_text}
use Rattle.replay.proofs.Openings.{opened}
use Rattle.replay.proofs.play.run.Goals as goal

pub returns : goal.returns
returns g c = λ e. opened (c.in_ok-write_to.ensures ∙ (ap (λ before. before ++ line_text c.made.result) c.new-replay.ensures.text ∙ c.made.ensures)) e (c.in_ok-play.ensures c.new-replay.ensures.gathered)
