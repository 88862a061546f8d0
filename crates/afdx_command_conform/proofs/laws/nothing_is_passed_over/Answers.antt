use Rattle.afdx_command_conform.proofs.QuietRunLemmas.{none_left_out, none_unseen}
use Rattle.afdx_command_conform.proofs.laws.nothing_is_passed_over.Goals as goal

pub returns : goal.returns
returns c = record { streams = none_unseen; frames = none_left_out }
