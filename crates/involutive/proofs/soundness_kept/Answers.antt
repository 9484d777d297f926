use Rattle.involutive.proofs.Soundness.{soundness_kept}
use Rattle.involutive.proofs.soundness_kept.Goals as goal

pub returns : goal.returns
returns c = soundness_kept
