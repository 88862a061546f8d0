use Rattle.afdx_police.proofs.ShapeLemmas.{sound-charged}
use Rattle.afdx_police.proofs.laws.sound_is_charged_for.Goals as goal

pub returns : goal.returns
returns c = sound-charged
