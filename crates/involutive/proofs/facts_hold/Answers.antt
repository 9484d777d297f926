use Rattle.involutive.proofs.WorkedFacts.{all_hold}
use Rattle.involutive.proofs.facts_hold.Goals as goal

pub returns : goal.returns
returns c = all_hold
