-- The parts of a frame as functions of its bytes, each read at its place, and what a view shows of
-- them.
use Rattle.std.specs.Prelude.{◌≡◌, ℕ, ◌+◌, ◌-◌, ◌*◌, ◌↔◌, not, nat_lt, if◌then◌else◌, Option, Some}
use Rattle.std.specs.Prelude.{None, Result, Ok, Err, List, length, take, drop, slice_index}
use Rattle.afdx_frame.specs.Lengths.{least_frame, greatest_frame}
use Rattle.afdx_frame.specs.declared.link.VlId.{VlId}
use Rattle.afdx_frame.specs.declared.fault.MacFault.{MacFault}
use Rattle.afdx_frame.specs.declared.fault.MacFault.TheVariants.{TooShort, TooLong, BadFcs}
use Rattle.afdx_frame.specs.declared.fault.MacFault.TheVariants.{BadAddress}
use Rattle.afdx_frame.specs.declared.checked.Checked.{Checked}
use Rattle.afdx_frame.specs.declared.mac.MacView.{MacView}
use Rattle.afdx_frame.specs.Sealing.{AreBytes, is_sealed}
use Rattle.afdx_frame.specs.Seals.{whole}
use Rattle.afdx_frame.specs.Layout.{IsFrame, FrameFault, link_named_by}

-- the link, the type, what stands between type and sequence number, and that number
pub record FrameParts : Type 0 where
  pub link : VlId
  pub kind : ℕ
  pub body : List ℕ
  pub number : ℕ

-- what a view shows
abbrev pub parts_of : MacView → FrameParts
parts_of view =
    record { link = view.vl; kind = view.ether_type; body = view.body.now; number = view.sequence }

-- all bytes of a frame
abbrev pub bytes_of : Checked → List ℕ
bytes_of frame = whole frame.seal frame.message.now

-- the word of 16 bits at a place, the high byte first
abbrev pub word_at : List ℕ → ℕ → ℕ
word_at bytes place = slice_index bytes place * 256 + slice_index bytes (place + 1)

-- the type: the word after the two addresses
abbrev pub type_of_frame : List ℕ → ℕ
type_of_frame bytes = word_at bytes 12

-- the body: all but the 14 bytes before it and the 5 after it
abbrev pub body_of_frame : List ℕ → List ℕ
body_of_frame bytes = take (length bytes - 19) (drop 14 bytes)

-- the sequence number: the byte before the check sequence
abbrev pub number_of_frame : List ℕ → ℕ
number_of_frame bytes = slice_index bytes (length bytes - 5)

-- the frame of this link, if there is one
abbrev pub frame_with : List ℕ → Option VlId → Result FrameParts MacFault
frame_with bytes None = Err BadAddress
frame_with bytes (Some vl) =
    Ok (record {
      link = vl;
      kind = type_of_frame bytes;
      body = body_of_frame bytes;
      number = number_of_frame bytes;
    })

-- the frame of a link that the bytes are, or the first fault
unfoldable pub frame_of : List ℕ → Result FrameParts MacFault
frame_of bytes =
    if nat_lt (length bytes) least_frame then Err TooShort
    else (if nat_lt greatest_frame (length bytes) then Err TooLong
    else (if not (is_sealed bytes) then Err BadFcs
    else frame_with bytes (link_named_by bytes)))

-- the bytes are a frame with these parts
abbrev pub IsFrameOf : List ℕ → FrameParts → Type 0
IsFrameOf bytes p = IsFrame bytes p.link.0 p.kind p.body p.number

-- the bytes are a frame of a link
abbrev pub IsLinkFrame : List ℕ → Type 0
IsLinkFrame bytes = (p : FrameParts) × IsFrameOf bytes p

-- each part stands at its place
pub record AreAtPlaces (bytes : List ℕ) (p : FrameParts) : Type 0 where
  pub link : link_named_by bytes ≡ Some p.link
  pub kind : p.kind ≡ type_of_frame bytes
  pub body : p.body ≡ body_of_frame bytes
  pub number : p.number ≡ number_of_frame bytes
  pub long : length bytes ≡ length p.body + 19

-- a frame has its parts at their places, and the frame or the fault that is computed is the one
-- that the layout gives
pub record FrameIsComputed : Type 0 where
  pub at_places : (bytes : List ℕ) (p : FrameParts) → IsFrameOf bytes p → AreAtPlaces bytes p
  pub frame : (bytes : List ℕ) (p : FrameParts) →
      AreBytes bytes →
      (frame_of bytes ≡ Ok p) ↔ IsFrameOf bytes p
  pub fault : (bytes : List ℕ) (fault : MacFault) →
      AreBytes bytes →
      (frame_of bytes ≡ Err fault) ↔ FrameFault bytes fault
