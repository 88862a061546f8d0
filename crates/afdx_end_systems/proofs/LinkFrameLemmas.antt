-- What is computed of a frame of a link.
use Rattle.std.proofs.Common.{◌≡◌, ℕ, List, true, ap}
use Rattle.std.specs.Prelude.{Result, Ok, Err, MatchResult}
use Rattle.afdx_frame.specs.Layout.{FrameFault}
use Rattle.afdx_frame.specs.Parts.{FrameParts, frame_of, IsFrameOf, IsLinkFrame, bytes_of}
use Rattle.afdx_frame.specs.Sealing.{AreBytes}
use Rattle.afdx_frame.specs.declared.checked.Checked.{Checked}
use Rattle.afdx_frame.specs.declared.fault.MacFault.{MacFault}
use Rattle.afdx_frame.proofs.PartsLemmas.{computed_frame, frame_exact}
use Rattle.afdx_frame.proofs.SealsLemmas.{AreBytes-whole}
use Rattle.afdx_end_systems.specs.LinkFrames.{is_link_frame, is_read}

are-bytes : (frame : Checked) → AreBytes (bytes_of frame)
are-bytes frame = AreBytes-whole frame.seal frame.message.now frame.fits

read-is : (bytes : List ℕ) (r : Result FrameParts MacFault)
    → MatchResult r (IsFrameOf bytes) (FrameFault bytes) → is_read r ≡ true → IsLinkFrame bytes
read-is bytes (Ok parts) is frames = (parts, is)
read-is bytes (Err fault) is frames = absurd cc

pub link-frame-is : (frame : Checked) → is_link_frame (bytes_of frame) ≡ true → IsLinkFrame (bytes_of frame)
link-frame-is frame frames =
    read-is (bytes_of frame) (frame_of (bytes_of frame)) (frame_exact (bytes_of frame) (are-bytes frame)) frames

pub is-link-frame : (frame : Checked) → IsLinkFrame (bytes_of frame) → is_link_frame (bytes_of frame) ≡ true
is-link-frame frame is = ap is_read (computed_frame (bytes_of frame) is.0 (are-bytes frame) is.1)
