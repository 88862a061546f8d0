use Rattle.afdx_conform.proofs.AheadLemmas.{later_frames}
use Rattle.afdx_conform.proofs.EndLemmas.{end_same}
use Rattle.afdx_conform.proofs.laws.later_changes_nothing.Goals as goal

pub returns : goal.returns
returns c = record { frames = later_frames; end = end_same }
