-- The output ports through the offers of the shares of one frame.
use Rattle.std.specs.Prelude.{All, ◌≡◌, ℕ, ◌+◌, ◌≤◌, Bool, false, if◌then◌else◌, Option, Some, None, List, slice_get}
use Rattle.afdx_frame.specs.declared.link.Priority.{Priority}
use Rattle.afdx_port.specs.Held as held
use Rattle.afdx_port.specs.History as queue
use Rattle.afdx_port.specs.Schedule.{Entry}
use Rattle.afdx_port.specs.declared.port_state.PortState.{PortState}
use Rattle.afdx_law_bounds.specs.Offered as offered
use Rattle.afdx_switch.specs.HeldFrames.{HeldFrame, facts}
use Rattle.afdx_switch.specs.Lines.{is_among}
use Rattle.afdx_switch.specs.Ports.{holds}
use Rattle.afdx_switch.specs.declared.line.Line.{Line}
use Rattle.afdx_switch.specs.declared.ports.PortSet.{PortSet}

-- the share of a frame at a port that its link goes to
abbrev pub share_of : HeldFrame → Bool → Option HeldFrame
share_of c goes = if goes then Some c else None

-- each of these is a share of the frame
abbrev pub AreShares : HeldFrame → List HeldFrame → Type 0
AreShares c shares = All (λ s. s ≡ c) shares

-- the ports that stand at none of these places are as they were
abbrev pub AreKept : List ℕ → List (PortState HeldFrame) → List (PortState HeldFrame) → Type 0
AreKept places old new =
    (i : ℕ) → is_among i places ≡ false → slice_get new i ≡ slice_get old i

-- a share of a frame as an entry
abbrev pub share_entry : ℕ → Priority → HeldFrame → Entry HeldFrame
share_entry time priority c = queue.entry_of facts time priority c

-- the entries of a port that is offered a share, if there is one
abbrev pub with_share : ℕ → Priority → ℕ → ℕ → List (Entry HeldFrame) → Option HeldFrame →
    List (Entry HeldFrame)
with_share time priority byte_ns buffer entries None = entries
with_share time priority byte_ns buffer entries (Some c) =
    offered.with_offer byte_ns buffer entries (share_entry time priority c)

-- the share is lost there
abbrev pub loses_share : ℕ → Priority → ℕ → ℕ → List (Entry HeldFrame) → Option HeldFrame → Bool
loses_share time priority byte_ns buffer entries None = false
loses_share time priority byte_ns buffer entries (Some c) =
    offered.is_lost byte_ns buffer entries (share_entry time priority c)

-- the calls of a port through the offer of a share
abbrev pub calls_after : ℕ → Priority → Option HeldFrame → queue.PortHistory HeldFrame → ℕ →
    queue.PortHistory HeldFrame
calls_after time priority share h clock =
    let entries = with_share time priority h.byte_ns h.buffer h.entries share in
    record {
      byte_ns = h.byte_ns;
      buffer = h.buffer;
      entries = entries;
      taken = h.taken;
      time = clock;
    }

-- a port before and after the offer of its share, and whether the share was lost
pub record IsOffered (time : ℕ) (priority : Priority) (share : Option HeldFrame)
    (o n : PortState HeldFrame) (is_lost : Bool) : Type 0 where
  pub clock : n.clock ≤ time
  pub quiet : held.IsQuiet facts n time
  pub more : held.frames_held n ≤ held.frames_held o + 1
  pub stands : (h : queue.PortHistory HeldFrame) →
      queue.StandsFor facts o h →
      queue.StandsFor facts n (calls_after time priority share h n.clock)
  pub lost : (h : queue.PortHistory HeldFrame) →
      queue.StandsFor facts o h →
      is_lost ≡ loses_share time priority h.byte_ns h.buffer h.entries share

-- the ports before and after a line's ports were offered shares of a frame, and which lost theirs
abbrev pub AreOffered : ℕ → Line → HeldFrame → List (PortState HeldFrame) →
    List (PortState HeldFrame) → PortSet → Type 0
AreOffered time line c old new lost = (i : ℕ) (o n : PortState HeldFrame) →
    slice_get old i ≡ Some o →
    slice_get new i ≡ Some n →
    IsOffered time line.priority (share_of c (is_among i line.goes.items)) o n (holds lost (i + 1))
