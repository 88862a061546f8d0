use Rattle.afdx_cascade.proofs.CableLemmas.{in-order, first-leave, all-leave}
use Rattle.afdx_cascade.proofs.laws.accepted_frames_leave.Goals as goal

pub returns : goal.returns
returns c = record { in_order = in-order; so_far = first-leave; all = all-leave }
