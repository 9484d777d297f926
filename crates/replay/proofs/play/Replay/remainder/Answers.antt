use Rattle.replay.proofs.Acting.{made_then, told_as, acts_remainder}
use Rattle.std.proofs.Common.{arith}
use Rattle.replay.proofs.play.Replay.remainder.Goals as goal

pub returns-clause-acts : goal.returns-clause-acts
returns-clause-acts g c = made_then c.write_to.result c.write_to.ensures (λ _ t. acts_remainder c.as_slice.ensures.value c.clear.ensures.items c.remainder-answer.ensures.same (omega arith) (told_as _ t c.shown.ensures) (c.remainder-answer.ensures.answer))
