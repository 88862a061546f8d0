use Rattle.std.proofs.Common.{length}
use Rattle.afdx_solve.proofs.delays.+latency_over.Given as goal

abbrev pub decreases-latency_over : goal.decreases-latency_over
decreases-latency_over l = length l.to.now
