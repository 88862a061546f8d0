-- What the lines of a replay's text say. A list of lines has the latest first.
use Rattle.std.specs.Prelude.{◌≡◌, ◌⊎◌, ℕ, ◌==◌, ◌&&◌, Bool, is_none, if◌then◌else◌, Option, Some, None, List, [], ◌∷◌, filter, map}
use Rattle.afdx_frame.specs.declared.link.Side.{Side}
use Rattle.afdx_config.specs.Reading.{listener_at}
use Rattle.afdx_config.specs.Rows.{Rows}
use Rattle.afdx_config.specs.SentList as sent
use Rattle.afdx_police.specs.Arrival.{Arrival, is_side, names}
use Rattle.afdx_police.specs.declared.shape.Reason.{Reason}
use Rattle.afdx_receive.specs.Answers.{Answer, Message, Dropped, answer_to}
use Rattle.afdx_receive.specs.Arrivals.{Arrived, arrived}
use Rattle.afdx_switch.specs.Admitted.{Passing, passing_in}
use Rattle.afdx_network.specs.Events.{Event, Came, Left, Departure}
use Rattle.afdx_law_promises.specs.Receptions.{brought_by}

-- the verdict on an arrival: why it was dropped, if it was
pub record Judged : Type 0 where
  pub arrival : Arrival
  pub reason : Option Reason

-- a frame that left an output port of the switch of a side: its tag is its line of the list
pub record Leaving : Type 0 where
  pub frame : Passing
  pub side : Side
  pub port : ℕ
  pub time : ℕ

-- a line of the text, by its kind
pub data Line : Type 0 where
  -- `V n side ..`: the verdict on the frame of line n
  Verdict : Judged → Line
  -- `D n time side port`: the frame of line n left a port
  Departed : Leaving → Line
  -- `M time system vl hex` or `X time system n WORD`: what the system at this place of the tables
  -- made of it
  Received : Leaving → ℕ → Answer → Line

-- it is one of these
abbrev pub IsIn : {X : Type 0} → X → List X → Type 0
IsIn x [] = ⊥
IsIn x (y ∷ ys) = (x ≡ y) ⊎ IsIn x ys

-- ---- V lines

unfoldable pub judged_in : List Line → List Judged
judged_in [] = []
judged_in (Verdict v ∷ before) = v ∷ judged_in before
judged_in (Departed d ∷ before) = judged_in before
judged_in (Received d system answer ∷ before) = judged_in before

abbrev pub arrivals_judged : List Judged → List Arrival
arrivals_judged verdicts = map (λ v. v.arrival) verdicts

-- those on a link's own arrivals on a side
abbrev pub verdicts_on : ℕ → Side → List Line → List Judged
verdicts_on vl side lines =
    filter (λ v. is_side side v.arrival.side && names vl v.arrival.bytes) (judged_in lines)

-- the arrivals that are accepted
abbrev pub accepted_in : List Judged → List Arrival
accepted_in verdicts = arrivals_judged (filter (λ v. is_none v.reason) verdicts)

-- ---- D lines

unfoldable pub left_in : List Line → List Leaving
left_in [] = []
left_in (Verdict v ∷ before) = left_in before
left_in (Departed d ∷ before) = d ∷ left_in before
left_in (Received d system answer ∷ before) = left_in before

-- the frames of a link that left a port of a side
abbrev pub is_leaving : ℕ → Side → ℕ → Leaving → Bool
is_leaving vl side port d = (is_side side d.side && (d.port == port)) && names vl d.frame.bytes

abbrev pub frames_at : ℕ → Side → ℕ → List Line → List Passing
frames_at vl side port lines = map (λ d. d.frame) (filter (is_leaving vl side port) (left_in lines))

-- what comes to the system at a port: what left that port on either side
abbrev pub arrived_as : Leaving → Arrived
arrived_as d = arrived d.time d.side d.frame.bytes

abbrev pub came_at : ℕ → List Line → List Arrived
came_at port lines = map arrived_as (filter (λ d. d.port == port) (left_in lines))

-- ---- M and X lines

-- a system's answers to the frames of a link
unfoldable pub answers_told : ℕ → ℕ → List Line → List Answer
answers_told system vl [] = []
answers_told system vl (Verdict v ∷ before) = answers_told system vl before
answers_told system vl (Departed d ∷ before) = answers_told system vl before
answers_told system vl (Received d k answer ∷ before) =
    if (k == system) && names vl d.frame.bytes
    then answer ∷ answers_told system vl before
    else answers_told system vl before

-- the messages of a system's M lines on a link
abbrev pub with_told : ℕ → Bool → Answer → List sent.Message → List sent.Message
with_told vl own (Message link udp payload) before =
    if own && (link == vl) then record { udp = udp; payload = payload } ∷ before else before
with_told vl own (Dropped why) before = before

unfoldable pub messages_told : ℕ → ℕ → List Line → List sent.Message
messages_told system vl [] = []
messages_told system vl (Verdict v ∷ before) = messages_told system vl before
messages_told system vl (Departed d ∷ before) = messages_told system vl before
messages_told system vl (Received d k answer ∷ before) =
    with_told vl (k == system) answer (messages_told system vl before)

-- ---- the lines of events

-- the frame that left by a departure
abbrev pub leaving : Departure → Leaving
leaving d =
    record { frame = passing_in d.turn.entry; side = d.side; port = d.port; time = d.turn.end }

-- what the system that hears at the port, if there is one, makes of a frame after what came to it
-- before
abbrev pub with_reception : Rows → List Arrived → Leaving → Option ℕ → List Line → List Line
with_reception t past d None before = before
with_reception t past d (Some system) before =
    Received d system (answer_to t system past (arrived_as d)) ∷ before

-- a line for each arrival, and for each frame that leaves a port one, and one of what its system
-- makes of it
unfoldable pub told_by : Rows → List Event → List Line
told_by t [] = []
told_by t (Came c ∷ before) =
    Verdict (record { arrival = c.arrival; reason = c.reason }) ∷ told_by t before
told_by t (Left d ∷ before) =
    with_reception t (brought_by d.port before) (leaving d) (listener_at t d.port)
    (Departed (leaving d) ∷ told_by t before)
