use Rattle.afdx_end_systems.proofs.PortsLemmas.{are_passed_on}
use Rattle.afdx_end_systems.proofs.laws.messages_are_passed_on.Goals as goal

pub returns : goal.returns
returns c = are_passed_on
