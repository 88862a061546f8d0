-- Of right systems of a switch there is no line. Lists have the newest first.
use Rattle.std.specs.Prelude.{◌≡◌, ℕ, ◌≤◌, true, false, Option, None, Some, List, [], ◌++◌, length, map}
use Rattle.std.specs.List.{All}
use Rattle.afdx_frame.specs.declared.link.Side.{Side}
use Rattle.afdx_police.specs.Arrival.{Arrival}
use Rattle.afdx_police.specs.Spacing.{AreUpTo}
use Rattle.afdx_lawful.specs.Right.{IsRightOn}
use Rattle.afdx_lawful.specs.RightTwice.{IsInRange, IsRightTwice}
use Rattle.afdx_lawful.specs.Sources.{Came, Source}
use Rattle.afdx_senders.specs.AllLines.{all_lines}
use Rattle.afdx_senders.specs.Lines.{Line}
use Rattle.afdx_senders.specs.SenderCounts.{sent_in}
use Rattle.afdx_senders.specs.Setups.{Setup, own_frames, source_at, whose}
use Rattle.afdx_senders.specs.Strays.{stray_of}
use Rattle.afdx_senders.specs.Telling.{ComeFrom, HaveBegun}

-- a source's frames are those of a right sender: on both networks, or on each by itself where just
-- one was recorded
pub record IsRightSource (s : Source) (xs : List Came) : Type 0 where
  pub in_range : IsInRange s
  pub both : s.is_paired ≡ true → IsRightTwice s xs
  pub alone : s.is_paired ≡ false → (side : Side) → IsRightOn s side xs

-- What came to a switch, by time up to the end, is so of each sender that is judged, and no frame
-- is of no source at a port that was recorded.
pub record AreAllRight (z : Setup) (came : List Arrival) : Type 0 where
  pub by_time : AreUpTo z.asked.until (map (λ x. x.time) came)
  pub right : (place : ℕ) (s : Source) →
      source_at z place ≡ Some s →
      IsRightSource s (own_frames z place came)
  pub strays : All (λ x. stray_of (whose z x) x.bytes ≡ None) came

-- then there is no line
abbrev pub RightHaveNoLine : Type 0
RightHaveNoLine =
    (z : Setup) (came : List Arrival) → AreAllRight z came → all_lines z came ≡ []

-- nor was any told at any call before, whatever comes later of right ones
abbrev pub RightTellNothing : Type 0
RightTellNothing =
    (z : Setup) (before : Option ℕ) (more xs : List Arrival) (told : List Line) →
    HaveBegun z before xs told →
    ComeFrom before more →
    AreAllRight z (more ++ xs) →
    told ≡ []

-- and each frame of such a sender is counted as sent
abbrev pub RightAreSent : Type 0
RightAreSent =
    (z : Setup) (xs : List Arrival) (place : ℕ) (s : Source) →
    AreAllRight z xs →
    source_at z place ≡ Some s →
    length (own_frames z place xs) ≤ sent_in z xs
