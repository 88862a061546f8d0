use Rattle.afdx_admit.proofs.way.+latency_within.Given as goal

abbrev pub decreases-latency_within : goal.decreases-latency_within
decreases-latency_within l = l.count
