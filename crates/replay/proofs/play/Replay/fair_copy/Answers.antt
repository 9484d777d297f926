use Rattle.replay.proofs.Acting.{made_then, told_as, acts_copy}
use Rattle.std.proofs.Common.{arith}
use Rattle.replay.proofs.play.Replay.fair_copy.Goals as goal

pub returns-clause-acts : goal.returns-clause-acts
returns-clause-acts g c = made_then c.write_to.result c.write_to.ensures (λ _ t. acts_copy c.fair_copy-answer.ensures.same (omega arith) (told_as _ t c.copied.ensures) (c.fair_copy-answer.ensures.answer))
