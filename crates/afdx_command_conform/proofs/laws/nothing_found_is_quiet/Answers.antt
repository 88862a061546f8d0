use Rattle.afdx_command_conform.proofs.QuietRunLemmas.{last_line, nothing_found}
use Rattle.afdx_command_conform.proofs.laws.nothing_found_is_quiet.Goals as goal

pub returns : goal.returns
returns c = record { found = nothing_found; last = last_line }
