-- What becomes of arrivals by the definition of an output port, on tables that are admitted or not.
-- A list of arrivals has the newest first, a list of turns the latest.
use Rattle.std.specs.Prelude.{◌≡◌, ℕ, ◌≤◌, ◌↔◌, ◌⊎◌, true, Option, Some, None, List, [], ◌∷◌, ◌++◌, length, find}
use Rattle.afdx_frame.specs.declared.link.Side.{Side}
use Rattle.afdx_frame.specs.Ports.{last_port}
use Rattle.afdx_config.specs.Lawful.{IsLawfulSwitch}
use Rattle.afdx_config.specs.Rows.{Rows}
use Rattle.afdx_police.specs.Arrival.{Arrival}
use Rattle.afdx_port.specs.Schedule.{Entry, Turn, IsLost}
use Rattle.afdx_law_bounds.specs.Outputs.{Row, AreTimed, sends, entry_of}
use Rattle.afdx_switch.specs.HeldFrames.{HeldFrame}
use Rattle.afdx_switch.specs.Switching.{taken_at}
use Rattle.afdx_switch.specs.Tables.{rows_of, output_at, carried, entries_at}
use Rattle.afdx_switch.specs.Verdicts.{reason_of, is_lost_at}
use Rattle.afdx_network.specs.Events.{Event, Came, Admission, turns_on}
use Rattle.afdx_network.specs.Order.{IsAmong, AreEvents, AreEventsSoFar}
use Rattle.afdx_law_promises.specs.Lines.{IsIn}
use Rattle.afdx_law_promises.specs.Ports.{AreItsTurns}

-- these turns are the schedule of a port's entries after these arrivals, and there is no other
pub record AreItsOnlyTurns (t : Rows) (side : Side) (port : ℕ) (arrivals : List Arrival)
    (turns : List (Turn HeldFrame)) : Type 0 where
  pub are : AreItsTurns t side port arrivals turns
  pub only : (others : List (Turn HeldFrame)) →
      AreItsTurns t side port arrivals others →
      others ≡ turns

-- the row of the link that accepts an arrival after these and goes on to this port, if one does
abbrev pub sender_to : Rows → Side → ℕ → List Arrival → Arrival → Option Row
sender_to t side port past x = find (sends (output_at t side port) past x) (rows_of t)

-- a frame that goes to this port is lost there: by the one schedule of the entries before it, those
-- that wait when it comes leave no room for it
pub record IsLostBySchedule (t : Rows) (side : Side) (port : ℕ) (past : List Arrival)
    (x : Arrival) : Type 0 where
  pub row : Row
  pub goes : sender_to t side port past x ≡ Some row
  pub turns : List (Turn HeldFrame)
  pub are : AreItsOnlyTurns t side port past turns
  pub no_room : IsLost t.buffer (entries_at t side port past) turns x.time (length x.bytes)

-- what an arrival adds to the entries of a port: an entry if it goes there and isn't lost, or else
-- nothing
abbrev pub Enters : Rows → Side → ℕ → List Arrival → Arrival → Option Row → List (Entry HeldFrame) →
    Type 0
Enters t side port past x None entries = entries ≡ entries_at t side port past
Enters t side port past x (Some r) entries =
    (IsLostBySchedule t side port past x × (entries ≡ entries_at t side port past))
    ⊎ ((IsLostBySchedule t side port past x → ⊥)
    × (entries ≡ entries_at t side port past ++ entry_of (carried t) r x ∷ []))

-- so the entries grow with each of these arrivals
abbrev pub EntriesGrow : Rows → Side → ℕ → List Arrival → Type 0
EntriesGrow t side port [] = entries_at t side port [] ≡ []
EntriesGrow t side port (x ∷ past) =
    Enters t side port past x (sender_to t side port past x) (entries_at t side port (x ∷ past))
    × EntriesGrow t side port past

-- what became of an arrival: its verdict is that of its link's own arrivals, and its copies are
-- lost at exactly the ports where the schedule leaves no room
pub record IsByDefinition (t : Rows) (arrivals : List Arrival) (c : Admission) : Type 0 where
  pub later : List Arrival
  pub past : List Arrival
  pub came : arrivals ≡ later ++ c.arrival ∷ past
  pub reason : c.reason ≡ reason_of t past c.arrival
  pub lost : (port : ℕ) →
      1 ≤ port →
      port ≤ last_port →
      IsIn port c.lost ↔ IsLostBySchedule t c.arrival.side port past c.arrival

-- all events of these arrivals, in their order, are those of the definition: the turns of each port
-- are the one schedule of its entries
pub record AreByDefinition (t : Rows) (arrivals : List Arrival) (events : List Event) :
    Type 0 where
  pub timed : AreTimed arrivals
  pub in_order : AreEvents t arrivals events
  pub admissions : (c : Admission) → IsAmong (Came c) events → IsByDefinition t arrivals c
  pub entries : (side : Side) (port : ℕ) → EntriesGrow t side port arrivals
  pub turns : (side : Side) (port : ℕ) →
      1 ≤ port →
      port ≤ last_port →
      AreItsOnlyTurns t side port arrivals (taken_at port (turns_on side events))

-- so are those up to the last of these arrivals: the turns of each port so far begin the schedule
pub record AreByDefinitionSoFar (t : Rows) (arrivals : List Arrival) (events : List Event) :
    Type 0 where
  pub timed : AreTimed arrivals
  pub in_order : AreEventsSoFar t arrivals events
  pub admissions : (c : Admission) → IsAmong (Came c) events → IsByDefinition t arrivals c
  pub entries : (side : Side) (port : ℕ) → EntriesGrow t side port arrivals
  pub turns : (side : Side) (port : ℕ) →
      1 ≤ port →
      port ≤ last_port →
      (later : List (Turn HeldFrame))
      × AreItsOnlyTurns t side port arrivals (later ++ taken_at port (turns_on side events))

-- so what a switch answers (`is_lost_at`) is lost by the definition, and nothing else is
abbrev pub LossesAreByDefinition : Type 0
LossesAreByDefinition = (t : Rows) (past : List Arrival) (x : Arrival) (port : ℕ) →
    AreTimed past →
    (is_lost_at t past x port ≡ true) ↔ IsLostBySchedule t x.side port past x

abbrev pub EventsAreByDefinition : Type 0
EventsAreByDefinition = (t : Rows) (arrivals : List Arrival) (events : List Event) →
    IsLawfulSwitch t → AreTimed arrivals → AreEvents t arrivals events →
    AreByDefinition t arrivals events

abbrev pub EventsSoFarAreByDefinition : Type 0
EventsSoFarAreByDefinition = (t : Rows) (arrivals : List Arrival) (events : List Event) →
    IsLawfulSwitch t → AreTimed arrivals → AreEventsSoFar t arrivals events →
    AreByDefinitionSoFar t arrivals events
