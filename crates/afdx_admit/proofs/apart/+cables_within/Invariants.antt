use Rattle.afdx_admit.proofs.apart.+cables_within.Given as goal

abbrev pub decreases-cables_within : goal.decreases-cables_within
decreases-cables_within l = l.count
