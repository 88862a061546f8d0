use Rattle.afdx_police.proofs.ShapeLemmas.{faultless-is-sound}
use Rattle.afdx_police.proofs.laws.sound_has_no_fault.Goals as goal

pub returns : goal.returns
returns c = faultless-is-sound
