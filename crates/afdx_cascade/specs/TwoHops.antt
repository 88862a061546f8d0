-- An example of all events of a list: its one frame passes the two switches, and its message comes
-- to the system at the second, once. Lists of events have the latest first.
use Rattle.std.specs.Prelude.{◌≡◌, ℕ, zero, suc, ◌==◌, ◌<◌, if◌then◌else◌, Option, Some, None, List}
use Rattle.std.specs.Prelude.{[], ◌∷◌, length}
use Rattle.afdx_frame.specs.declared.link.Side.TheVariants.{A, B}
use Rattle.afdx_admit.specs.Cascade.{RowAt, row_at, IsCascadeAdmitted}
use Rattle.afdx_config.specs.LawfulStream.{Sending}
use Rattle.afdx_config.specs.Rows.{Rows}
use Rattle.afdx_config.specs.Switches.{AreSwitches}
use Rattle.afdx_police.specs.Arrival.{arrival_with}
use Rattle.afdx_port.specs.Schedule.{Turn}
use Rattle.afdx_switch.specs.HeldFrames.{HeldFrame}
use Rattle.afdx_network.specs.Events.{Left}
use Rattle.afdx_network.specs.Network.{departure_after}
use Rattle.afdx_law_promises.specs.Examples.{first_on, heard}
use Rattle.afdx_cascade.specs.Cables.{brought}
use Rattle.afdx_cascade.specs.EndToEnd.{AreAllEvents}
use Rattle.afdx_cascade.specs.Examples.{link_before, link_after, switches, tables_before}
use Rattle.afdx_cascade.specs.Examples.{tables_after}
use Rattle.afdx_cascade.specs.Plans.{plan_of}
use Rattle.afdx_cascade.specs.Receivers.{IsFedOn, IsStreamFrom, IsWayToSystem, lines_of}
use Rattle.afdx_cascade.specs.Receivers.{messages_at}
use Rattle.afdx_cascade.specs.SwitchEvents.{Plan, IsPlan, End, SwitchEvent, AlwaysKeepsRules}
use Rattle.afdx_cascade.specs.SwitchEvents.{accepted_by, at_switch, came_to, end_at}
use Rattle.afdx_cascade.specs.Runs.{Line, AreAll, arriving, event_at}

abbrev pub tables_of : ℕ → Rows
tables_of zero = tables_before
tables_of (suc zero) = tables_after
tables_of (suc (suc k)) = tables_before

abbrev pub joined_to : ℕ → ℕ → Option End
joined_to zero port = if port == 2 then Some (end_at 1 1) else None
joined_to (suc zero) port = if port == 1 then Some (end_at 0 2) else None
joined_to (suc (suc k)) port = None

abbrev pub two_switches : Plan
two_switches = record { count = 2; tables = tables_of; far_end = joined_to }

-- the one line of the list
abbrev pub line : Line
line = record { switch = 0; arrival = arrival_with 1 0 A 1 (first_on A) }

-- its frame arrives at the first switch, and leaves it in this slot
abbrev pub arrived : List SwitchEvent
arrived = arriving two_switches [] 0 line.arrival ∷ []

abbrev pub left : Turn HeldFrame → List SwitchEvent
left first = event_at 0 (Left (departure_after (at_switch 0 arrived) A 2 first)) ∷ arrived

-- then it arrives at the second switch, and leaves that one in this slot
abbrev pub carried_on : Turn HeldFrame → List SwitchEvent
carried_on first = arriving two_switches (left first) 1 (brought A 1 first) ∷ left first

abbrev pub left_both : Turn HeldFrame → Turn HeldFrame → List SwitchEvent
left_both first second =
    event_at 1 (Left (departure_after (at_switch 1 (carried_on first)) A 2 second))
    ∷ carried_on first

-- these four are all events of the list, and keep the rules; both switches accept the frame
pub record FramePassesBoth : Type 0 where
  pub plan : IsPlan two_switches
  pub first : Turn HeldFrame
  pub second : Turn HeldFrame
  pub all : AreAll two_switches (line ∷ []) (left_both first second)
  pub rules : AlwaysKeepsRules two_switches (left_both first second)
  pub accepted : (k : ℕ) →
      k < 2 →
      length (accepted_by (tables_of k) (came_to k (left_both first second))) ≡ 1

-- ---- its message

-- the link at each switch
abbrev pub row_before : RowAt
row_before = row_at 0 link_before

abbrev pub row_after : RowAt
row_after = row_at 1 link_after

-- a lawful stream of the link, of one message
abbrev pub stream : List Sending
stream = record { time = 0; a = first_on A; b = first_on B } ∷ []

-- The switches are admitted together, and these are all their events. On side A the stream came,
-- and on side B nothing: so the system at the second switch is told the message, once.
pub record MessagePassesBoth : Type 0 where
  pub are : AreSwitches switches
  pub admitted : IsCascadeAdmitted switches
  pub events : List SwitchEvent
  pub run : AreAll (plan_of switches) (line ∷ []) events
  pub all : AreAllEvents switches events
  pub way : IsWayToSystem switches row_after (row_before ∷ []) 0
  pub sends : IsStreamFrom switches row_before (heard ∷ []) stream
  pub fed : IsFedOn switches events row_before stream A
  pub told : messages_at 0 row_after (lines_of switches events 1) ≡ heard ∷ []
