use Rattle.afdx_input_lines.proofs.WholeLemmas.{whole_lines_are_first}
use Rattle.afdx_input_lines.proofs.laws.whole_lines_are_first.Goals as goal

pub returns : goal.returns
returns c = whole_lines_are_first
