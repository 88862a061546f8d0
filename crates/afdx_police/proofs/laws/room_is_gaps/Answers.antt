use Rattle.afdx_police.proofs.SpacingLemmas.{room_is_gaps, right_has_room}
use Rattle.afdx_police.proofs.laws.room_is_gaps.Goals as goal

pub returns : goal.returns
returns c = record { exact = room_is_gaps; right = right_has_room }
