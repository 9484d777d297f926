use Rattle.replay.proofs.Acting.{made_then, told_as, acts_add}
use Rattle.replay.proofs.play.Replay.add.Goals as goal

pub returns-clause-acts : goal.returns-clause-acts
returns-clause-acts g c = made_then c.write_to.result c.write_to.ensures (λ _ t. acts_add c.as_slice.ensures.value c.clear.ensures.items (told_as _ t c.answered.ensures) (c.add-answer.ensures.answer))
