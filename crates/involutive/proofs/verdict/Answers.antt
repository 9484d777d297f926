use Rattle.involutive.proofs.Verdicts.{verdict}
use Rattle.involutive.proofs.verdict.Goals as goal

pub returns : goal.returns
returns c = verdict
