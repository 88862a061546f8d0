-- What arrived at a receiver, and each link's frames of it. A list of what arrived has the newest
-- first.
use Rattle.std.specs.Prelude.{ℕ, nat_eq, Result, Ok, Err, List, [], ◌∷◌, if◌then◌else◌}
use Rattle.afdx_frame.specs.declared.link.Side.{Side}
use Rattle.afdx_frame.specs.declared.fault.MacFault.{MacFault}
use Rattle.afdx_frame.specs.Parts.{FrameParts, frame_of}
use Rattle.afdx_receive.specs.Integrity.{Incoming}

-- bytes that arrived: when, in ns, and by which network
pub record Arrived : Type 0 where
  pub time : ℕ
  pub side : Side
  pub bytes : List ℕ

abbrev pub arrived : ℕ → Side → List ℕ → Arrived
arrived time side bytes = record { time = time; side = side; bytes = bytes }

-- the frame of a link that the bytes are
abbrev pub incoming : Arrived → FrameParts → Incoming
incoming x frame = record {
  time = x.time;
  side = x.side;
  vl = frame.link.0;
  number = frame.number;
  bytes = x.bytes;
}

-- if it is a frame of this link, it joins those before
abbrev pub with_frame : ℕ → Arrived → Result FrameParts MacFault → List Incoming → List Incoming
with_frame vl x (Ok frame) before =
    if nat_eq frame.link.0 vl then incoming x frame ∷ before else before
with_frame vl x (Err fault) before = before

-- of what arrived, the frames of one link: damaged bytes and other links' frames are left out
unfoldable pub frames_of : ℕ → List Arrived → List Incoming
frames_of vl [] = []
frames_of vl (x ∷ past) = with_frame vl x (frame_of x.bytes) (frames_of vl past)
