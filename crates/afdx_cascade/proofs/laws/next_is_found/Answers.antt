use Rattle.afdx_cascade.proofs.laws.next_is_found.Goals as goal
use Rattle.afdx_cascade.proofs.RingLemmas.{turn-next, frame-next}

pub returns : goal.returns
returns c = record { turn = turn-next; frame = frame-next }
