-- What is known of a frame whose turn at an output port is over.
use Rattle.std.specs.Prelude.{ℕ}
use Rattle.afdx_frame.specs.declared.link.Side.{Side}
use Rattle.afdx_port.specs.declared.left.Left.{Left}
use Rattle.afdx_switch.specs.HeldFrames.{HeldFrame}
use Rattle.afdx_switch.specs.declared.switch.Departure.{Departure}

-- the frame, when its slot ended, and whether it was dropped for its age, as its port gave it
abbrev pub as_given : Departure → Left HeldFrame
as_given departure = departure.left

-- the port that gave it, 1 to 24
abbrev pub giving_port : Departure → ℕ
giving_port departure = departure.port

-- the side of its switch
abbrev pub giving_side : Departure → Side
giving_side departure = departure.side

-- the same, of the switch of this side
abbrev pub on_side : Side → Departure → Departure
on_side side departure =
    record { side = side; port = departure.port; left = departure.left }
