-- What the lines of a run over a switch and of one over its systems as senders say together, of the
-- same frames. Lists have the newest first.
use Rattle.std.specs.Prelude.{◌≡◌, ℕ, ◌≤◌, not, ◌&&◌, true, nat_le, Option, None, Some, List, filter, length, map}
use Rattle.std.specs.Prelude.{slice_get}
use Rattle.std.specs.Option.{ForSome}
use Rattle.afdx_config.specs.Admission.{IsServing}
use Rattle.afdx_config.specs.Lawful.{IsLawful}
use Rattle.afdx_config.specs.Rows.{LinkRow, Rows, SystemRow, is_to}
use Rattle.afdx_conform.specs.LimitRanges.{most_bytes}
use Rattle.afdx_frame.specs.declared.link.Side.{Side}
use Rattle.afdx_input_runs.specs.Joining.{Frame}
use Rattle.afdx_lawful.specs.Sources.{least_left}
use Rattle.afdx_law_recorded.specs.Receivers.{AreHeard, heard_of}
use Rattle.afdx_law_recorded.specs.Switches.{AllAreJudged, EachCameOnce, IsExactFromReset, left_of}
use Rattle.afdx_police.specs.Arrival.{Arrival, own}
use Rattle.afdx_receive.specs.Integrity.{Incoming}
use Rattle.afdx_senders.specs.Lines.{Line}
use Rattle.afdx_senders.specs.SenderCounts.{alone_in}
use Rattle.afdx_senders.specs.Setups.{Setup, ending}
use Rattle.afdx_senders.specs.Telling.{AreToldBefore}
use Rattle.afdx_command_conform.specs.Choices.{Choices, is_behind, left_out_of, until_or}
use Rattle.afdx_command_conform.specs.Counting.{totals_of}
use Rattle.afdx_command_conform.specs.Frames.{arrivals_of, frames_of}
use Rattle.afdx_command_conform.specs.Lines.{AreLines}
use Rattle.afdx_command_conform.specs.RunLaws.{AreByTime, NothingIsFound}
use Rattle.afdx_command_conform.specs.Sight.{of_tables}
use Rattle.afdx_command_conform.specs.Tapped.{Taps, is_of_came}
use Rattle.afdx_command_conform.specs.Telling.{findings_in}
use Rattle.afdx_command_conform.specs.Lines.{Due}
use Rattle.afdx_command_senders.specs.Asked.{Asked, came_in}
use Rattle.afdx_command_senders.specs.LinkWays.{ways_of}
use Rattle.afdx_command_senders.specs.Outlook.{Outlook}
use Rattle.afdx_command_senders.specs.SenderLines.{whole_setup}
use Rattle.afdx_command_senders.specs.SenderTexts.{told_lines}
use Rattle.afdx_command_senders.specs.Setting.{IsSetting}

-- ---- all that was recorded

-- until the end that is said, if one is: what came, and what left that isn't longer than any frame
-- on a line
abbrev pub came_until : Option ℕ → List Frame → List Arrival
came_until until frames =
    map (λ x. x.arrival)
    (filter (λ x. is_of_came x.role && not (is_behind x.arrival.time until)) frames)

abbrev pub left_until : Option ℕ → List Frame → List Arrival
left_until until frames =
    map (λ x. x.arrival)
    (filter (λ x. not (is_of_came x.role) && not (is_behind x.arrival.time until)
    && nat_le (length x.arrival.bytes) most_bytes) frames)

-- ---- who is judged

-- copies may be sent so far apart, in ns, as the tables leave for the frames of each of their links
abbrev pub IsLeftBy : Rows → ℕ → Type 0
IsLeftBy t ns =
    (place bytes : ℕ) (l : LinkRow) →
    slice_get t.links place ≡ Some l →
    l.lmin ≤ bytes →
    ns ≤ least_left (ways_of t l) bytes

-- There is one switch on each side, of lawful tables that keep admission. Stamps and clocks are
-- exact, nothing went before, and copies may be sent no further apart than the tables leave.
pub record IsExactTest (o : Outlook) (a : Asked) : Type 0 where
  pub one_switch : o.among ≡ None
  pub lawful : IsLawful o.tables
  pub serving : IsServing o.tables
  pub exact : IsExactFromReset a.run.by
  pub apart : ForSome a.apart (IsLeftBy o.tables)

-- where no link is alone, all systems are judged and were recorded on both sides
abbrev pub NoneAloneIsJudged : Type 0
NoneAloneIsJudged =
    (o : Outlook) (a : Asked) (z : Setup) (until : ℕ) →
    IsExactTest o a →
    IsSetting o a z →
    alone_in (ending until z) ≡ 0 →
    AllAreJudged (ending until z)

-- ---- which frames count

-- of what came it is what isn't longer than any frame on a line
abbrev pub no_longer : List Arrival → List Arrival
no_longer xs = filter (λ x. nat_le (length x.bytes) most_bytes) xs

-- A switch is judged by all that came and left, but for what is longer than any frame on a line: of
-- a link by its own arrivals, and by what left at a port.
pub record IsJudgedByAll (t : Rows) (c : Choices) (frames : List Frame) : Type 0 where
  pub came : (vl : ℕ) (side : Side) →
      arrivals_of t c vl side frames ≡ own vl side (no_longer (came_until c.until frames))
  pub left : (vl : ℕ) (side : Side) (port : ℕ) →
      frames_of t c vl side port frames ≡ left_of vl side port (left_until c.until frames)

-- so it is where none is left out and nothing went before; and then systems are judged by all that
-- came, if that is the same run
abbrev pub NoneLeftOutIsJudged : Type 0
NoneLeftOutIsJudged =
    (t : Rows) (c : Choices) (frames : List Frame) →
    c.by.start ≡ None →
    left_out_of t c frames ≡ 0 →
    IsJudgedByAll t c frames

abbrev pub NoneLeftOutIsSent : Type 0
NoneLeftOutIsSent =
    (t : Rows) (a : Asked) (frames : List Frame) →
    a.run.by.start ≡ None →
    left_out_of t a.run frames ≡ 0 →
    came_in a frames ≡ came_until a.run.until frames

-- ---- both together

-- by such a setting these are all lines of the senders of frames that go by time, none of them is
-- a finding, and no link is alone
pub record SendersFindNothing (o : Outlook) (a : Asked) (z : Setup) (frames : List Frame)
    (told : List Line) : Type 0 where
  pub setting : IsSetting o a z
  pub by_time : AreByTime frames
  pub are_all : AreToldBefore (whole_setup (z, a) frames) None (came_in a frames) told
  pub none : findings_in (told_lines told) ≡ 0
  pub alone : alone_in (whole_setup (z, a) frames) ≡ 0

-- these are all lines of the switch of frames, none of them is a finding, and nothing is open, left
-- out or unseen
pub record SwitchFindsNothing (t : Rows) (c : Choices) (frames : List Frame) (dues : List Due)
    : Type 0 where
  pub are_all : AreLines t c (until_or c.until frames) frames dues
  pub none : NothingIsFound dues
  pub closed : (totals_of (t, c) frames dues).waiting ≡ 0
  pub left_out : (totals_of (t, c) frames dues).left_out ≡ 0
  pub unseen : (totals_of (t, c) frames dues).unseen ≡ 0

-- What comes to a system that gets a link is what left its port on both sides. On each side that is
-- exactly what the link's system sent, in order and in time; and what the rules of integrity and
-- redundancy make of it are the messages to the system's UDP ports, each once and in order.
abbrev pub EachIsOnce : Outlook → Setup → (until : Option ℕ) → List Frame → Type 0
EachIsOnce o z until frames =
    (place system : ℕ) (l : LinkRow) (s : SystemRow) (heard : List Incoming) →
    slice_get o.tables.links place ≡ Some l →
    slice_get o.tables.systems system ≡ Some s →
    is_to system l ≡ true →
    AreHeard l.vl (λ side. left_of l.vl side s.port (left_until until frames)) heard →
    EachCameOnce z (until_or until frames) (came_until until frames) (left_until until frames)
    place system l s heard

-- so it is of each link, where both judges find nothing of the same frames
abbrev pub BothShowOnce : Type 0
BothShowOnce =
    (o : Outlook) (a : Asked) (z : Setup) (frames : List Frame) (told : List Line)
    (dues : List Due) →
    IsExactTest o a →
    a.run.sight ≡ of_tables o.tables a.taps →
    SendersFindNothing o a z frames told →
    SwitchFindsNothing o.tables a.run frames dues →
    EachIsOnce o (whole_setup (z, a) frames) a.run.until frames

-- and where two runs do, of which the one over the senders took just what came in the other, with
-- the same leeway
abbrev pub TwoRunsShowOnce : Type 0
TwoRunsShowOnce =
    (o : Outlook) (a : Asked) (taps : Taps) (c : Choices) (z : Setup) (sent frames : List Frame)
    (told : List Line) (dues : List Due) →
    IsExactTest o a →
    c.sight ≡ of_tables o.tables taps →
    c.by ≡ a.run.by →
    came_in a sent ≡ came_until c.until frames →
    SendersFindNothing o a z sent told →
    SwitchFindsNothing o.tables c frames dues →
    EachIsOnce o (whole_setup (z, a) sent) c.until frames

-- ---- what comes to a system

-- What left goes by time on each side, so it comes to the system of a port merged by time: at one
-- time that of side A first.
abbrev pub LeftIsHeard : Type 0
LeftIsHeard =
    (until : Option ℕ) (frames : List Frame) (vl port : ℕ) →
    AreByTime frames →
    AreHeard vl (λ side. left_of vl side port (left_until until frames))
    (heard_of vl (λ side. left_of vl side port (left_until until frames)))
