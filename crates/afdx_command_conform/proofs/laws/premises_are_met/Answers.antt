use Rattle.afdx_command_conform.proofs.RunExampleLemmas.{premises_met}
use Rattle.afdx_command_conform.proofs.laws.premises_are_met.Goals as goal

pub returns : goal.returns
returns c = premises_met
