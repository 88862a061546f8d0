use Rattle.afdx_cascade.proofs.WayLemmas.{first-accepted, way-leave, all-accepted, way-leave-all}
use Rattle.afdx_cascade.proofs.laws.ways_keep_frames.Goals as goal

pub returns : goal.returns
returns c = record {
  accepted_so_far = first-accepted;
  leave_so_far = way-leave;
  accepted = all-accepted;
  leave = way-leave-all;
}
