-- What a replay answers and writes, and how far it has come.
use Rattle.std.specs.Prelude.{ℕ, ◌+◌, ◌*◌, ◌≡◌, ◌≤◌, List, ◌∷◌, length, Option, Result, Ok, Err}
use Rattle.std.specs.Io.KnownBytes.{Appends}
use Rattle.afdx_frame.specs.Ports.{last_port}
use Rattle.afdx_config.specs.Rows.{Rows}
use Rattle.afdx_police.specs.Arrival.{Arrival}
use Rattle.afdx_input_lines.specs.Lines.{lines_of}
use Rattle.afdx_input_lines.specs.Calls.{AppendsFront}
use Rattle.afdx_input_lines.specs.declared.fault.RunFault.{RunFault}
use Rattle.afdx_end_systems.specs.StandsFor as systems
use Rattle.afdx_end_systems.specs.declared.systems.Systems.{Systems}
use Rattle.afdx_network.specs.Events.{Event, Left, Departure, arrivals_in}
use Rattle.afdx_network.specs.Order.{IsAtArrival, events_of, events_so_far}
use Rattle.afdx_network.specs.Network as network
use Rattle.afdx_network.specs.declared.network.Network.{Network}
use Rattle.afdx_input_sources.specs.Listed.{AreSound, arrivals_of}
use Rattle.afdx_command_tables.specs.Counts.{with_lines}
use Rattle.afdx_replay.specs.replaying.Text.{replay_text, replay_counts, frames_left, lines_at}
use Rattle.afdx_replay.specs.replaying.Text.{with_event}
use Rattle.afdx_input_sources.specs.Stops.{StopsAt}
use Rattle.afdx_replay.specs.declared.replaying.run.Replay.{Replay}
use Rattle.afdx_command_tables.specs.declared.summary.Summary.{Summary}

-- the greatest count of a run that may still grow
abbrev pub most_counted : ℕ
most_counted = 4611686018427387904

-- the bytes of a device, where they are known
abbrev pub Known : Type 0
Known = Option (List ℕ)

-- the output, which held `old`, now holds the text of the events of these arrivals up to the last
-- of them after it
abbrev pub WritesSoFar : Rows → Known → Known → List Arrival → Type 0
WritesSoFar t old new past = Appends old new (replay_text t (events_so_far t past))

-- the same of a beginning of the text of all events of these arrivals
abbrev pub WritesSome : Rows → Known → Known → List Arrival → Type 0
WritesSome t old new past = AppendsFront old new (replay_text t (events_of t past))

-- all lines were read, none has a fault, and the text of all events of their arrivals is written,
-- and they are counted
pub record WritesAll
    (t : Rows) (lines : List (List ℕ)) (old new : Known) (summary : Summary) : Type 0 where
  pub sound : AreSound lines (length lines)
  pub written : Appends old new (replay_text t (events_of t (arrivals_of lines (length lines))))
  pub counted : summary
      ≡ with_lines (replay_counts t (events_of t (arrivals_of lines (length lines)))) (length lines)

-- what a replay answers that is given a list of these bytes, after which the input has `rest` and
-- the output `new`
abbrev pub Answers : Rows → List ℕ → Known → Known → Known → Result Summary RunFault → Type 0
Answers t bytes rest old new (Ok summary) = WritesAll t (lines_of bytes) old new summary
Answers t bytes rest old new (Err fault) =
    StopsAt (WritesSoFar t old new) (WritesSome t old new) bytes rest fault

-- these events are told: the switches and the systems stand for them, they are counted, and their
-- text is written
pub record HasTold
    (t : Rows) (n : Network) (s : Systems) (counts : Summary) (old new : Known)
    (events : List Event) : Type 0 where
  pub switches_are : network.StandsFor t n events
  pub systems_are : systems.StandsFor t s (frames_left events)
  pub counted : counts ≡ replay_counts t events
  pub written : Appends old new (replay_text t events)

-- these arrivals are told, and the departures before the last of them
pub record AreTold
    (t : Rows) (n : Network) (s : Systems) (counts : Summary) (old new : Known)
    (past : List Arrival) : Type 0 where
  pub events : List Event
  pub arrivals_are : arrivals_in events ≡ past
  pub at_arrival : IsAtArrival events
  pub told : HasTold t n s counts old new events

-- more departures are told, of the same arrivals
abbrev pub ToldMore : Rows → Network → Systems → Summary → Known → Known → List Event → Type 0
ToldMore t n s counts old new events =
    (more : List Event) × (arrivals_in more ≡ arrivals_in events)
    × HasTold t n s counts old new more

-- the text of all events of these arrivals is written, and they are counted
pub record ToldAll
    (t : Rows) (counts : Summary) (old new : Known) (past : List Arrival) : Type 0 where
  pub counted : counts ≡ replay_counts t (events_of t past)
  pub written : Appends old new (replay_text t (events_of t past))

-- a departure at the switch of this name, that comes after these there, is told: its frame came to
-- its system, it is counted, and its lines are written
pub record TellsDeparture
    (name : List ℕ) (t : Rows) (s : Systems) (old_counts counts : Summary) (before : List Event)
    (d : Departure) (old new : Known) : Type 0 where
  pub systems_are : systems.StandsFor t s (frames_left (Left d ∷ before))
  pub counted : counts ≡ with_event t before (Left d) old_counts
  pub written : Appends old new (lines_at name t before (Left d))

-- counts that can grow
pub record AreLow (counts : Summary) : Type 0 where
  pub accepted : counts.accepted ≤ most_counted
  pub dropped : counts.dropped ≤ most_counted
  pub lost : counts.lost ≤ most_counted
  pub departed : counts.departed ≤ most_counted
  pub too_old : counts.too_old ≤ most_counted
  pub delivered : counts.delivered ≤ most_counted

-- there is room for more counts: n arrivals came, and so many frames are held
pub record HasRoom (counts : Summary) (held n : ℕ) : Type 0 where
  pub verdicts : counts.accepted + counts.dropped ≤ n
  pub losses : counts.lost ≤ last_port * n
  pub turns : counts.departed + counts.too_old + held ≤ last_port * n
  pub messages : counts.delivered ≤ counts.departed

-- ---- the same words of what a replay works with

module _ {D : Type 0} where
  abbrev pub Tells : Rows → Replay D → Known → Known → List Event → Type 0
  Tells t replay old new events =
      HasTold t replay.network replay.systems replay.counts old new events

  abbrev pub TellsMore : Rows → Replay D → Known → Known → List Event → Type 0
  TellsMore t replay old new events =
      ToldMore t replay.network replay.systems replay.counts old new events

  abbrev pub TellsArrivals : Rows → Replay D → Known → Known → List Arrival → Type 0
  TellsArrivals t replay old new past =
      AreTold t replay.network replay.systems replay.counts old new past

  abbrev pub HasRoomFor : Replay D → ℕ → Type 0
  HasRoomFor replay n = HasRoom replay.counts (network.frames_held replay.network) n
