use Rattle.std.proofs.Common.{length}
use Rattle.bench.proofs.problem.Problem.read.Given as goal

abbrev pub decreases-loop-gathered : goal.decreases-loop-gathered
decreases-loop-gathered l = length l.rest
