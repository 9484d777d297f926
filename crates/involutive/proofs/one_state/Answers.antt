use Rattle.involutive.proofs.OneAnswer.{one_state}
use Rattle.involutive.proofs.one_state.Goals as goal

pub returns : goal.returns
returns c = one_state
