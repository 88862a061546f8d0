use Rattle.afdx_cascade.proofs.WayLemmas.{frames-alone}
use Rattle.afdx_cascade.proofs.laws.frames_are_alone.Goals as goal

pub returns : goal.returns
returns c = frames-alone
