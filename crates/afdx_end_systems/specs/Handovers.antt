-- The frames that the switches hand over to the systems. A list of them has the newest first.
use Rattle.std.specs.Prelude.{ℕ, ◌==◌, List, [], ◌∷◌, if◌then◌else◌}
use Rattle.afdx_frame.specs.declared.link.Side.{Side}
use Rattle.afdx_frame.specs.Parts.{bytes_of}
use Rattle.afdx_receive.specs.Integrity.{Incoming}
use Rattle.afdx_receive.specs.Arrivals.{Arrived, arrived, frames_of}
use Rattle.afdx_end_systems.specs.declared.handover.Handover.{Handover}

-- a frame that left an output port of the switch of a side: when its slot ended, in ns, the line of
-- the list that it came from, and all its bytes
pub record HandedOver : Type 0 where
  pub side : Side
  pub port : ℕ
  pub time : ℕ
  pub line : ℕ
  pub bytes : List ℕ

-- what the code's struct tells
abbrev pub handed_over : Handover → HandedOver
handed_over h =
    record { side = h.side; port = h.port; time = h.time; line = h.line; bytes = bytes_of h.frame }

-- it arrives at the port's system as it leaves
abbrev pub arrival_of : HandedOver → Arrived
arrival_of d = arrived d.time d.side d.bytes

-- what came to the system at a port, by both networks
unfoldable pub came_to : ℕ → List HandedOver → List Arrived
came_to port [] = []
came_to port (d ∷ before) =
    if d.port == port then arrival_of d ∷ came_to port before else came_to port before

-- of this, the frames of one link
abbrev pub frames_to : ℕ → ℕ → List HandedOver → List Incoming
frames_to port vl all = frames_of vl (came_to port all)
