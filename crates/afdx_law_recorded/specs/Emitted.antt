-- What `send` emits for systems is judged as theirs. Lists of what came have the newest first,
-- streams the oldest.
use Rattle.std.specs.Prelude.{◌≡◌, ℕ, None, Some, List, [], map, slice_get}
use Rattle.std.specs.List.{All}
use Rattle.afdx_frame.specs.declared.link.Side.{Side}
use Rattle.afdx_config.specs.LawfulStream.{Sending}
use Rattle.afdx_config.specs.Rows.{LinkRow}
use Rattle.afdx_police.specs.Arrival.{Arrival}
use Rattle.afdx_police.specs.Spacing.{AreUpTo}
use Rattle.afdx_lawful.specs.Accepted.{ComeUpTo}
use Rattle.afdx_lawful.specs.Recorded.{IsRecordedOn, IsSourceOf}
use Rattle.afdx_lawful.specs.RightTwice.{IsInRange, NothingIsFound}
use Rattle.afdx_lawful.specs.Sources.{Came, Source}
use Rattle.afdx_lawful.specs.TwoNetworks.{at_once}
use Rattle.afdx_send.specs.Emissions.{AreSendings}
use Rattle.afdx_send.specs.Sender.{SenderHistory, StandsFor}
use Rattle.afdx_send.specs.declared.sender_state.SenderState.{SenderState}
use Rattle.afdx_senders.specs.AllLines.{all_lines}
use Rattle.afdx_senders.specs.Setups.{Setup, own_frames, source_at, whose}
use Rattle.afdx_senders.specs.Strays.{stray_of}

-- A source's frames are what was recorded, on each side from the start up to the end, of what a
-- sender emitted of its link: each emission at one time on both networks.
pub record AreEmitted (source : Source) (xs : List Came) : Type 0 where
  pub sender : SenderState
  pub history : SenderHistory
  pub stands : StandsFor sender history
  pub place : ℕ
  pub link : LinkRow
  pub sends : slice_get history.links place ≡ Some link
  pub of : IsSourceOf history.system link source
  pub stream : List Sending
  pub sendings : AreSendings history.system link.vl history.emitted stream
  pub recorded : (side : Side) → IsRecordedOn source (map at_once stream) xs side

-- nothing is found of it, whatever the options
abbrev pub EmittedIsNeverAccused : Type 0
EmittedIsNeverAccused =
    (source : Source) (xs : List Came) →
    IsInRange source →
    ComeUpTo source.until xs →
    AreEmitted source xs →
    NothingIsFound source xs

-- What came to a switch, by time up to the end, is so of each sender that is judged, and no frame
-- is of no source at a port that was recorded.
pub record AllAreEmitted (z : Setup) (came : List Arrival) : Type 0 where
  pub by_time : AreUpTo z.asked.until (map (λ x. x.time) came)
  pub in_range : (place : ℕ) (s : Source) → source_at z place ≡ Some s → IsInRange s
  pub emitted : (place : ℕ) (s : Source) →
      source_at z place ≡ Some s →
      AreEmitted s (own_frames z place came)
  pub strays : All (λ x. stray_of (whose z x) x.bytes ≡ None) came

-- then there is no line
abbrev pub EmittedHasNoLine : Type 0
EmittedHasNoLine =
    (z : Setup) (came : List Arrival) → AllAreEmitted z came → all_lines z came ≡ []
