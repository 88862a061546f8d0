use Rattle.afdx_switch.proofs.LawLemmas.{lost-listed}
use Rattle.afdx_switch.proofs.laws.lost_ports_are_listed.Goals as goal

pub returns : goal.returns
returns c = lost-listed
