-- What stands for all frames that came to the senders of a switch, and for what was told of them.
-- Lists have the newest first.
use Rattle.std.specs.Prelude.{◌≡◌, ℕ, ◌≤◌, Option, Some, None, List, ◌∷◌, filter, length, map, option_map}
use Rattle.afdx_frame.specs.declared.link.Side.{Side}
use Rattle.afdx_lawful.specs.Courses.{Course, told_at, waited_on}
use Rattle.afdx_lawful.specs.Judged.{waiting_of}
use Rattle.afdx_police.specs.Arrival.{Arrival}
use Rattle.afdx_senders.specs.Followed.{ByPlace, Followed}
use Rattle.afdx_senders.specs.Lines.{Line, line_of}
use Rattle.afdx_senders.specs.Order.{IsBefore, is_moment_before}
use Rattle.afdx_senders.specs.Setups.{Setup, own_frames, source_at}
use Rattle.afdx_senders.specs.Sites.{among_of, recorded_in}
use Rattle.afdx_senders.specs.Standing.{SendersStand}
use Rattle.afdx_senders.specs.Telling.{AreTold, AreToldBefore}
use Rattle.afdx_senders.specs.declared.sender_line.SenderLine.{SenderLine}
use Rattle.afdx_senders.specs.declared.senders.Senders.{Senders}

-- nothing came of it later than that time
abbrev pub IsReachedBy : Option ℕ → Course → Type 0
IsReachedBy None c = Unit {0}
IsReachedBy (Some time) c = c.reached ≤ time

-- just those of its frames wait no longer whose moments lie before that time
pub record IsSettled (before : Option ℕ) (f : Followed) : Type 0 where
  pub reached : IsReachedBy before f.course
  pub over : (side : Side) → waited_on f.course side
      ≡ filter (λ y. is_moment_before before (told_at f.source y))
      (waiting_of f.source side f.course.came)

-- just the sources are followed that are judged, each with just its own frames
pub record AreOwn (z : Setup) (xs : List Arrival) (at : ByPlace) : Type 0 where
  pub sources : (place : ℕ) → option_map (λ f. f.source) (at place) ≡ source_at z place
  pub came : (place : ℕ) (f : Followed) → at place ≡ Some f →
      f.course.came ≡ own_frames z place xs

abbrev pub AreSettled : Option ℕ → ByPlace → Type 0
AreSettled before at = (place : ℕ) (f : Followed) → at place ≡ Some f → IsSettled before f

-- it works by this setup
pub record AreOf (z : Setup) (senders : Senders) : Type 0 where
  pub tables : senders.sites.tables.now ≡ z.tables
  pub among : among_of senders.sites ≡ z.among
  pub recorded : recorded_in senders.sites.recorded ≡ z.recorded
  pub room : length senders.kept.slots.items ≡ length z.tables.links

-- These frames came, and these lines were told. Of each source that is judged those frames wait no
-- longer whose moments lie before that time; without a time none does.
pub record HaveTold (z : Setup) (before : Option ℕ) (xs : List Arrival) (told : List Line)
    (senders : Senders) : Type 0 where
  pub at : ByPlace
  pub setup : AreOf z senders
  pub own : AreOwn z xs at
  pub settled : AreSettled before at
  pub stand : SendersStand at senders
  pub lines : AreTold z before xs told (map line_of senders.found)

-- the second time is no sooner; without a time it is later than any
abbrev pub IsNoSooner : Option ℕ → Option ℕ → Type 0
IsNoSooner by None = Unit {0}
IsNoSooner None (Some time) = ⊥
IsNoSooner (Some by) (Some time) = by ≤ time

-- the next line is told, or all of moments before that time are
abbrev pub TellsNext : Setup → Option ℕ → List Arrival → List Line → Senders → Option SenderLine →
    Type 0
TellsNext z before xs told senders None =
    AreToldBefore z before xs told × HaveTold z before xs told senders
TellsNext z before xs told senders (Some x) =
    IsBefore before x × HaveTold z before xs (line_of x ∷ told) senders
