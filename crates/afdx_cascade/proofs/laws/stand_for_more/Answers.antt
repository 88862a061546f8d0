use Rattle.afdx_cascade.proofs.laws.stand_for_more.Goals as goal
use Rattle.afdx_cascade.proofs.StandingLemmas.{nothing-happened, line-arrives, frame-arrives}
use Rattle.afdx_cascade.proofs.CarriedLemmas.{turn-ends, frame-is-carried}

pub returns : goal.returns
returns c = record {
  first = nothing-happened;
  line = line-arrives;
  frame = frame-arrives;
  turn = turn-ends;
  carried = frame-is-carried;
}
