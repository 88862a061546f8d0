use Rattle.afdx_cascade.proofs.laws.ring_stays_in_order.Goals as goal
use Rattle.afdx_cascade.proofs.BehindLemmas.{joins-behind, turn-behind, arrival-behind}

pub returns : goal.returns
returns c = record { joins = joins-behind; turn = turn-behind; arrival = arrival-behind }
