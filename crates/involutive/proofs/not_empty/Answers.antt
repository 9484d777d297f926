use Rattle.involutive.proofs.Examples.{not_empty}
use Rattle.involutive.proofs.not_empty.Goals as goal

pub returns : goal.returns
returns c = not_empty
