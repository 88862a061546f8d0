use Rattle.afdx_cascade.proofs.laws.events_are_one.Goals as goal
use Rattle.afdx_cascade.proofs.RunLemmas.{events-begin, events-one}

pub returns : goal.returns
returns c = record { begin = events-begin; one = events-one }
