use Rattle.std.proofs.Common.{length}
use Rattle.afdx_admit.proofs.apart.+least_to.Given as goal

abbrev pub decreases-least_to : goal.decreases-least_to
decreases-least_to l = length l.places.now
