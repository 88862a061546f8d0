use Rattle.afdx_command_conform.proofs.RunLawLemmas.{found_explained, none_explained}
use Rattle.afdx_command_conform.proofs.ShownLemmas.{shows_all}
use Rattle.afdx_command_conform.proofs.VerdictLemmas.{conforms_explained}
use Rattle.afdx_command_conform.proofs.laws.conforms_is_explained.Goals as goal

pub returns : goal.returns
returns c = record {
  found = found_explained;
  none = none_explained;
  answer = conforms_explained;
  shows = shows_all;
}
