use Rattle.involutive.proofs.OneAnswer.{one_answer}
use Rattle.involutive.proofs.one_answer.Goals as goal

pub returns : goal.returns
returns c = one_answer
