use Rattle.afdx_law_bounds.proofs.NeededLemmas.{each-needed}
use Rattle.afdx_law_bounds.proofs.laws.each_line_is_needed.Goals as goal

pub returns : goal.returns
returns c = each-needed
