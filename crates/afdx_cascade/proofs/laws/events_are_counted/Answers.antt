use Rattle.afdx_cascade.proofs.laws.events_are_counted.Goals as goal
use Rattle.afdx_cascade.proofs.CountedLemmas.{events-counted}

pub returns : goal.returns
returns c = events-counted
