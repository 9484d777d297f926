use Rattle.std.proofs.lemmas.List.{take_rest}
use Rattle.reduction.proofs.reduce.cancel.Goals as goal

pub returns : goal.returns
returns g c = rw (take_rest c.as_slice.result.now 1, c.as_slice.ensures.value, c.quotient.ensures) at c.subtract.ensures
