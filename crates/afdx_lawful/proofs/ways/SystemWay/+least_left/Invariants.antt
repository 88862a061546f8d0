use Rattle.std.proofs.Common.{length}
use Rattle.afdx_lawful.proofs.ways.SystemWay.+least_left.Given as goal

abbrev pub decreases-least_left : goal.decreases-least_left
decreases-least_left l = length l.ways.now
