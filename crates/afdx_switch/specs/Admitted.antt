-- What admitted tables promise of a switch, whatever arrives. A list of arrivals has the newest
-- first.
use Rattle.std.specs.Prelude.{◌≡◌, ℕ, ◌+◌, ◌*◌, ◌≤◌, true, false, not, if◌then◌else◌, All, Some, List, [], ◌∷◌, filter, map, reverse, slice_get}
use Rattle.afdx_frame.specs.declared.link.Side.{Side}
use Rattle.afdx_config.specs.Admission.{IsServing}
use Rattle.afdx_config.specs.Lawful.{IsLawfulSwitch}
use Rattle.afdx_config.specs.Rows.{LinkRow, Rows}
use Rattle.afdx_police.specs.Arrival.{Arrival, own}
use Rattle.afdx_police.specs.Verdicts.{accepted_arrivals}
use Rattle.afdx_port.specs.Classes.{entries_in}
use Rattle.afdx_port.specs.Due.{IsAfter}
use Rattle.afdx_port.specs.History.{due_at}
use Rattle.afdx_port.specs.Schedule.{Entry, Turn, has_turn, IsNext, AreTurns}
use Rattle.afdx_law_bounds.specs.Outputs.{AreTimed}
use Rattle.afdx_switch.specs.HeldFrames.{HeldFrame}
use Rattle.afdx_switch.specs.Laws.{is_of}
use Rattle.afdx_switch.specs.Ports.{holds}
use Rattle.afdx_switch.specs.Tables.{rule_of, goes_to, byte_ns_at, entries_at}
use Rattle.afdx_switch.specs.Verdicts.{is_lost_at}
use Rattle.afdx_switch.specs.declared.verdict.Verdict.{Verdict}
use Rattle.afdx_switch.specs.declared.verdict.Verdict.TheVariants.{Dropped, Accepted}

-- the tables are lawful and admitted, and the times of the arrivals don't decrease
pub record IsAdmittedRun (t : Rows) (arrivals : List Arrival) : Type 0 where
  pub lawful : IsLawfulSwitch t
  pub admitted : IsServing t
  pub timed : AreTimed arrivals

-- a frame that passes a switch: the caller's tag, when it arrived, and all bytes
pub record Passing : Type 0 where
  pub tag : ℕ
  pub time : ℕ
  pub bytes : List ℕ

-- the frame of an arrival
abbrev pub passing : Arrival → Passing
passing x = record { tag = x.tag; time = x.time; bytes = x.bytes }

-- the frame of a port's entry
abbrev pub passing_in : Entry HeldFrame → Passing
passing_in e = record { tag = e.item.tag; time = e.time; bytes = e.item.bytes }

-- of these arrivals, those that the switch of a side accepts of a link
abbrev pub accepted_on : Rows → LinkRow → Side → List Arrival → List Arrival
accepted_on t l side arrivals = accepted_arrivals (rule_of t l) (own l.vl side arrivals)

-- their frames, in the order in which they came
abbrev pub accepted_frames : Rows → LinkRow → Side → List Arrival → List Passing
accepted_frames t l side arrivals = map passing (reverse (accepted_on t l side arrivals))

-- the frames of a link among some entries, in their order
abbrev pub frames_among : ℕ → List (Entry HeldFrame) → List Passing
frames_among vl entries = map passing_in (filter (is_of vl) entries)

-- those turns that are slots, and not drops of frames that are too old
abbrev pub slots : List (Turn HeldFrame) → List (Turn HeldFrame)
slots turns = filter (λ s. not s.too_old) turns

-- the frames of a link that left a port by these turns, in the order in which they left
abbrev pub frames_left : ℕ → List (Turn HeldFrame) → List Passing
frames_left vl turns = frames_among vl (entries_in (slots turns))

-- an accepted arrival is lost nowhere
abbrev pub AcceptedIsKept : Type 0
AcceptedIsKept = (t : Rows) (past : List Arrival) (x : Arrival) (port : ℕ) →
    IsAdmittedRun t (x ∷ past) → is_lost_at t past x port ≡ false

-- an answer names no port at which the frame is lost
abbrev pub LosesNothing : Verdict → Type 0
LosesNothing (Dropped reason) = Unit {0}
LosesNothing (Accepted lost) = (port : ℕ) → holds lost port ≡ false

-- at each port that a link goes to exactly its accepted frames enter, in the order in which they
-- came, and at others none
abbrev pub AcceptedEnter : Type 0
AcceptedEnter = (t : Rows) (arrivals : List Arrival) (side : Side) (port place : ℕ) (l : LinkRow) →
    IsAdmittedRun t arrivals → slice_get t.links place ≡ Some l →
    frames_among l.vl (entries_at t side port arrivals)
    ≡ (if goes_to t l port then accepted_frames t l side arrivals else [])

-- the turns of a link's frames are slots, which end within its latency
abbrev pub AreInTime : LinkRow → List (Turn HeldFrame) → Type 0
AreInTime l turns = All
    (λ s. is_of l.vl s.entry ≡ true →
    (s.too_old ≡ false) × (s.end ≤ s.entry.time + 1000 * l.latency_us))
    turns

abbrev pub TurnsAreInTime : Type 0
TurnsAreInTime = (t : Rows) (arrivals : List Arrival) (side : Side) (port place : ℕ) (l : LinkRow)
    (turns : List (Turn HeldFrame)) →
    IsAdmittedRun t arrivals →
    slice_get t.links place ≡ Some l →
    AreTurns (byte_ns_at t port) (entries_at t side port arrivals) turns →
    AreInTime l turns

-- each entry of a link whose latency is over by then has had its turn
abbrev pub HaveLeft : LinkRow → ℕ → List (Entry HeldFrame) → List (Turn HeldFrame) → Type 0
HaveLeft l until entries turns =
    (place : ℕ) (e : Entry HeldFrame) →
    slice_get entries place ≡ Some e →
    is_of l.vl e ≡ true →
    e.time + 1000 * l.latency_us ≤ until →
    has_turn turns place ≡ true

-- so it is where no further turn is given by then
abbrev pub AllHaveLeft : Type 0
AllHaveLeft = (t : Rows) (arrivals : List Arrival) (side : Side) (port place : ℕ) (l : LinkRow)
    (turns : List (Turn HeldFrame)) (until : ℕ) →
    IsAdmittedRun t arrivals →
    slice_get t.links place ≡ Some l →
    AreTurns (byte_ns_at t port) (entries_at t side port arrivals) turns →
    ((s : Turn HeldFrame) → IsNext (byte_ns_at t port) (entries_at t side port arrivals) turns s →
    IsAfter until (due_at s)) →
    HaveLeft l until (entries_at t side port arrivals) turns

-- a turn is a slot, which ends within the latency of the link whose frame it is
pub record IsInTime (t : Rows) (s : Turn HeldFrame) : Type 0 where
  pub place : ℕ
  pub link : LinkRow
  pub stands : slice_get t.links place ≡ Some link
  pub named : is_of link.vl s.entry ≡ true
  pub not_old : s.too_old ≡ false
  pub within : s.end ≤ s.entry.time + 1000 * link.latency_us
