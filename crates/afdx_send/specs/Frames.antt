-- What the output port holds of a released message.
use Rattle.std.specs.Prelude.{ℕ, ◌+◌, max, min, None, List, length}
use Rattle.afdx_config.specs.SentList.{Message}
use Rattle.afdx_frame.specs.Lengths.{least_frame, greatest_frame, frame_overhead}
use Rattle.afdx_frame.specs.Grammar.{Read}
use Rattle.afdx_frame.specs.declared.builder.Address.{Address}
use Rattle.afdx_port.specs.Facts.{Facts}

-- its link's identifier, the least length of the link's frames, its sequence number, and the
-- message
pub record Frame : Type 0 where
  pub vl : ℕ
  pub least : ℕ
  pub number : ℕ
  pub message : Message

abbrev pub numbered_frame : ℕ → ℕ → ℕ → ℕ → List ℕ → Frame
numbered_frame vl least number udp payload = record {
  vl = vl;
  least = least;
  number = number;
  message = record { udp = udp; payload = payload };
}

-- where a system's frames come from and go to: both UDP ports are the message's
abbrev pub address_with : ℕ → ℕ → Frame → Address
address_with system_id partition f = record {
  vl = record { 0 = f.vl };
  system_id = system_id;
  partition = partition;
  from_udp = f.message.udp;
  to_udp = f.message.udp;
  least = f.least;
}

-- the bytes are read as a frame of its link that carries its message under its number
abbrev pub IsReadAs : List ℕ → Frame → Type 0
IsReadAs bytes f = Read bytes f.vl f.message.udp f.message.udp f.message.payload f.number

-- what a port knows of it: its length is that which the builder gives it, at most that of the
-- greatest frame. It may wait for ever
abbrev pub facts : Frame → Facts
facts f = record {
  bytes = min greatest_frame
      (max (length f.message.payload + frame_overhead) (max least_frame f.least));
  longest_wait = None;
}
