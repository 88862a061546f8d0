use Rattle.afdx_lawful.proofs.PaceLemmas.{first_level}
use Rattle.afdx_lawful.proofs.pace.Pace.new.Goals as goal

pub returns : goal.returns
returns c = first_level
