-- What is recorded of a right switch up to an end.
use Rattle.std.specs.Prelude.{List, reverse}
use Rattle.afdx_conform.specs.Events.{GoUp, frame_times}
use Rattle.afdx_conform.specs.Histories.{uncut}
use Rattle.afdx_conform.specs.Right.{Asked, IsRight}
use Rattle.afdx_conform.specs.Streams.{Gone, Terms}

-- A switch is right too by what is left of its frames, the newest first, once those are cut off
-- that may have left behind the end.
abbrev pub RightIsCut : Type 0
RightIsCut =
    (z : Terms) (asked : List Asked) (frames : List Gone) →
    GoUp (frame_times (reverse frames)) →
    IsRight z asked frames →
    IsRight z asked (uncut z frames)
