-- Whether bytes are a frame of a link, computed.
use Rattle.std.specs.Prelude.{Bool, true, false, Result, Ok, Err, List, ℕ}
use Rattle.afdx_frame.specs.Parts.{FrameParts, frame_of}
use Rattle.afdx_frame.specs.declared.fault.MacFault.{MacFault}

abbrev pub is_read : Result FrameParts MacFault → Bool
is_read (Ok parts) = true
is_read (Err fault) = false

abbrev pub is_link_frame : List ℕ → Bool
is_link_frame bytes = is_read (frame_of bytes)
