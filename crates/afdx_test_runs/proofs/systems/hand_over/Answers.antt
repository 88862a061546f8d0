use Rattle.std.proofs.Common.{ap}
use Rattle.afdx_end_systems.specs.LinkFrames.{is_read}
use Rattle.afdx_test_runs.proofs.systems.hand_over.Goals as goal

pub invariant_of-handover : goal.invariant_of-handover
invariant_of-handover c = record { framed = ap is_read c.in-Ok.ensures.computed }
