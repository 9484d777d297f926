use Rattle.std.proofs.Common.{append_assoc, rules}
use Rattle.std.proofs.Output.{has_written_of_eq}
use Rattle.lines.proofs.LineDisplay.fmt.Goals as goal

pub returns-clause-writes : goal.returns-clause-writes
returns-clause-writes g c = λ p q. has_written_of_eq _ _ _ _ _ (search (rules, append_assoc)) (c.write.ensures.writes p q)
