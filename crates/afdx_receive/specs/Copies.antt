-- Exactly once: the copies of a link's lawful stream that come to a receiver by the two networks.
use Rattle.std.specs.Prelude.{◌≡◌, ℕ, ◌+◌, ◌*◌, ◌≤◌, Bool, max, Some, Ok, List, [], ◌∷◌, filter}
use Rattle.std.specs.Prelude.{reverse, slice_get, take, IfSome}
use Rattle.afdx_frame.specs.declared.link.Side.TheVariants.{A, B}
use Rattle.afdx_frame.specs.Parts.{FrameParts, frame_of}
use Rattle.afdx_config.specs.Rows.{SystemRow, LinkRow}
use Rattle.afdx_config.specs.Lawful.{IsLink}
use Rattle.afdx_config.specs.SentList.{Message}
use Rattle.afdx_config.specs.LawfulStream.{Sending, IsLawfulStream, copy_on}
use Rattle.afdx_receive.specs.Integrity.{Incoming}
use Rattle.afdx_receive.specs.Redundancy.{newest}
use Rattle.afdx_receive.specs.TwoStreams.{count_of}
use Rattle.afdx_receive.specs.Delivery.{delivered}

-- the frame is the copy of the next sending on its side: it comes after it was sent, at most the
-- latency later, and not before those that came
pub record IsNextCopy (latency : ℕ) (stream : List Sending) (before : List Incoming)
    (frame : Incoming) : Type 0 where
  pub sending : Sending
  pub at_place : slice_get stream (count_of frame.side before) ≡ Some sending
  pub bytes : frame.bytes ≡ copy_on frame.side sending
  pub parts : FrameParts
  pub is_frame : frame_of frame.bytes ≡ Ok parts
  pub number : frame.number ≡ parts.number
  pub sent_before : sending.time ≤ frame.time
  pub in_time : frame.time ≤ sending.time + latency
  pub in_order : IfSome (newest before) (λ last. last.time ≤ frame.time)

-- all that came are copies of the stream, on each side in order and with none left out
abbrev pub AreCopies : ℕ → List Sending → List Incoming → Type 0
AreCopies latency stream [] = Unit {0}
AreCopies latency stream (frame ∷ before) =
    IsNextCopy latency stream before frame × AreCopies latency stream before

-- Where a link's latency is at most its skew, exactly the messages of its stream to an open UDP
-- port are delivered, each once and in order, as far as one of the sides has come.
abbrev pub StreamIsDeliveredOnce : Type 0
StreamIsDeliveredOnce =
    (systems : ℕ) (s : SystemRow) (l : LinkRow) (messages : List Message) (stream : List Sending)
    (is_open : ℕ → Bool) (came : List Incoming) →
    IsLink systems l →
    l.latency_us ≤ l.skew_us →
    IsLawfulStream s l messages stream →
    AreCopies (1000 * l.latency_us) stream came →
    reverse (delivered (1000 * l.skew_us) is_open came)
    ≡ filter (λ m. is_open m.udp) (take (max (count_of A came) (count_of B came)) messages)
