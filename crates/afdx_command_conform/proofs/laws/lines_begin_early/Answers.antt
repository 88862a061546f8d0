use Rattle.afdx_command_conform.proofs.EarlyLawLemmas.{lines-begin}
use Rattle.afdx_command_conform.proofs.laws.lines_begin_early.Goals as goal

pub returns : goal.returns
returns c = lines-begin
