use Rattle.std.proofs.Common.{append_assoc}
use Rattle.std.proofs.Output.{has_written_of_eq}
use Rattle.stored.proofs.text.HeadingDisplay.fmt.Goals as goal

pub returns-clause-writes : goal.returns-clause-writes
returns-clause-writes g c = λ p ok.
    has_written_of_eq _ _ _ _ _ (rw (c.order_name-order.ensures, c.division_name-division.ensures) (simp append_assoc)) (c.write.ensures.writes p ok)
