use Rattle.afdx_command_conform.proofs.OneAnswerLemmas.{one_answer}
use Rattle.afdx_command_conform.proofs.VerdictLemmas.{written_once}
use Rattle.afdx_command_conform.proofs.laws.there_is_one_answer.Goals as goal

pub returns : goal.returns
returns c = record { lines = one_answer; written = written_once }
