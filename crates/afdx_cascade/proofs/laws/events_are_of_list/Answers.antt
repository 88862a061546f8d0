use Rattle.afdx_cascade.proofs.laws.events_are_of_list.Goals as goal
use Rattle.afdx_cascade.proofs.LinesLemmas.{ports-lines}
use Rattle.afdx_cascade.proofs.PartLemmas.{are-taken, are-of-list}

pub returns : goal.returns
returns c = record { listed = are-taken; ports = ports-lines; all = are-of-list }
