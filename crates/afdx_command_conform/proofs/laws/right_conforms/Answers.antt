use Rattle.afdx_command_conform.proofs.RunLawLemmas.{right_conforms}
use Rattle.afdx_command_conform.proofs.VerdictLemmas.{never_deviates}
use Rattle.afdx_command_conform.proofs.laws.right_conforms.Goals as goal

pub returns : goal.returns
returns c = record { found = right_conforms; answer = never_deviates }
