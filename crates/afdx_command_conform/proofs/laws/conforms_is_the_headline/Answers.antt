use Rattle.afdx_command_conform.proofs.RunLawLemmas.{is_the_headline}
use Rattle.afdx_command_conform.proofs.ShownLemmas.{shows_the_rule}
use Rattle.afdx_command_conform.proofs.VerdictLemmas.{exact_conforms}
use Rattle.afdx_command_conform.proofs.laws.conforms_is_the_headline.Goals as goal

pub returns : goal.returns
returns c = record { found = is_the_headline; answer = exact_conforms; shows = shows_the_rule }
