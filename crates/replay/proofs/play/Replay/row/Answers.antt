use Rattle.replay.proofs.Acting.{made_then, told_as, acts_row}
use Rattle.std.proofs.Common.{arith}
use Rattle.replay.proofs.play.Replay.row.Goals as goal

pub returns : goal.returns
returns g c = record {
  acts = made_then c.write_to.result c.write_to.ensures (λ _ t. acts_row c.from.ensures (omega arith) (told_as _ t c.shown.ensures) (c.row-answer.ensures.answer));
}
