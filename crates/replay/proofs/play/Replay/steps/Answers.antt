use Rattle.replay.proofs.Acting.{made_then, told_as, acts_steps}
use Rattle.replay.proofs.play.Replay.steps.Goals as goal

pub returns-clause-acts : goal.returns-clause-acts
returns-clause-acts g c = made_then c.write_to.result c.write_to.ensures (λ _ t. acts_steps c.from_be_bytes.ensures (told_as _ t c.stepped.ensures) (c.repeat_step-steps.ensures.steps))
