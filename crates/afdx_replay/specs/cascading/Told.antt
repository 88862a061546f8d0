-- What a replay of several switches a side has told, from event to event.
use Rattle.std.specs.Prelude.{ℕ, ◌+◌, ◌*◌, ◌≡◌, ◌≤◌, List, [], ◌∷◌, ◌++◌, length, reverse, slice_get}
use Rattle.std.specs.Prelude.{Option, Some}
use Rattle.std.specs.Io.KnownBytes.{Appends}
use Rattle.std.specs.List.{AllByRecursion}
use Rattle.afdx_frame.specs.Ports.{last_port}
use Rattle.afdx_frame.specs.Times.{latest_listed}
use Rattle.afdx_cascade.specs.Cascade as cascade
use Rattle.afdx_cascade.specs.Cascade.{AreFrom, TellsArrival}
use Rattle.afdx_cascade.specs.Plans.{plan_of, tables_of}
use Rattle.afdx_cascade.specs.Runs.{Line, Runs, arriving}
use Rattle.afdx_cascade.specs.Scan.{switches_most}
use Rattle.afdx_cascade.specs.SwitchEvents.{SwitchEvent, HaveBroughtAll, at_switch}
use Rattle.afdx_cascade.specs.declared.cascade.Cascade.{Cascade}
use Rattle.afdx_cascade.specs.declared.told.SitedPort.{SitedPort}
use Rattle.afdx_command_tables.specs.declared.summary.Summary.{Summary}
use Rattle.afdx_config.specs.Switches.{NamedRows}
use Rattle.afdx_end_systems.specs.StandsFor as systems
use Rattle.afdx_end_systems.specs.declared.systems.Systems.{Systems}
use Rattle.afdx_input_lines.specs.declared.watched.Watched.{Watched}
use Rattle.afdx_switch.specs.declared.verdict.Verdict.{Verdict}
use Rattle.afdx_replay.specs.cascading.Early.{HearsEarly}
use Rattle.afdx_replay.specs.cascading.Text.{cascade_text, cascade_counts, event_lines}
use Rattle.afdx_replay.specs.declared.cascading.teller.Teller.{Teller}
use Rattle.afdx_replay.specs.replaying.Replayed.{Known}
use Rattle.afdx_replay.specs.replaying.Text.{frames_left, with_event}

-- of each accepted frame few copies are lost, and no more messages come than frames left
pub record AreSteady (counts : Summary) : Type 0 where
  pub losses : counts.lost ≤ last_port * counts.accepted
  pub messages : counts.delivered ≤ counts.departed

-- how many events they count
abbrev pub total : Summary → ℕ
total counts = counts.accepted + counts.dropped + counts.departed + counts.too_old

-- it tells of these switches
pub record IsFor {D : Type 0} (switches : List NamedRows) (t : Teller D) : Type 0 where
  pub switches_are : t.switches.now ≡ switches
  pub systems_are : length t.systems.items ≡ length switches
  pub few : length switches ≤ switches_most

-- the port at which the frame of a line arrives
abbrev pub port_of : Line → SitedPort
port_of line =
    record {
      switch = record { 0 = line.switch };
      side = line.arrival.side;
      port = line.arrival.port;
    }

module _ (switches : List NamedRows) where
  -- the systems of each switch are after the frames that left it
  abbrev pub SystemsAre : List Systems → List SwitchEvent → Type 0
  SystemsAre all events =
      (k : ℕ) (s : Systems) → slice_get all k ≡ Some s →
      systems.StandsFor (tables_of switches k) s (frames_left (at_switch k events))

  -- an event that comes after these is told: the frame that left came to its system, it is counted,
  -- and its lines are written
  pub record TellsOne (all : List Systems) (old_counts counts : Summary) (old new : Known)
      (before : List SwitchEvent) (h : SwitchEvent) : Type 0 where
    pub systems_are : SystemsAre all (h ∷ before)
    pub counted : counts
        ≡ with_event (tables_of switches h.switch) (at_switch h.switch before) h.event old_counts
    pub written : Appends old new (event_lines switches before h)

  -- these are the first events of each list that begins with these lines, the newest first, and
  -- goes on at `until` or later
  abbrev pub AreFirst : List Line → (until : ℕ) → List SwitchEvent → Type 0
  AreFirst past until events =
      (later : List Line) → AreFrom until later →
      Runs (plan_of switches) (reverse past ++ later) events later

  -- the newest event is the arrival of the newest line; before the first line nothing happens
  abbrev pub EndsAtLine : List Line → List SwitchEvent → Type 0
  EndsAtLine [] events = events ≡ []
  EndsAtLine (x ∷ past) events =
      (before : List SwitchEvent)
      × (events ≡ arriving (plan_of switches) before x.switch x.arrival ∷ before)

  -- the frame of a line arrives next, after these events, and that is told of it: what became of
  -- it, and by how much it came too early
  abbrev pub BringsLine : Cascade → (before : List SwitchEvent) → Line → Verdict × ℕ → Type 0
  BringsLine w before line told =
      cascade.ArrivesNext (plan_of switches) w before line told.0
      × TellsArrival (plan_of switches) before (port_of line) line.arrival.tag told.0 told.1
      (arriving (plan_of switches) before line.switch line.arrival)

-- the time of the newest line, or 0
abbrev pub latest_line : List Line → ℕ
latest_line [] = 0
latest_line (x ∷ past) = x.arrival.time

-- each came by the latest time that a line of a list may have
abbrev pub AreInTime : List Line → Type 0
AreInTime past = AllByRecursion (λ line. line.arrival.time ≤ latest_listed) past

module _ {D : Type 0} (contents : D → Option (List ℕ)) (switches : List NamedRows) where
  -- these events are told: the switches and the systems stand for them, they are counted, their
  -- text is written, and a device was told of those that came too early
  pub record HasTold (w : Cascade) (t : Teller D) (start : Option (Watched D)) (old new : Known)
      (events : List SwitchEvent) : Type 0 where
    pub fits : IsFor switches t
    pub switches_are : cascade.StandsFor (plan_of switches) w events
    pub systems_are : SystemsAre switches t.systems.items events
    pub counted : t.counts ≡ cascade_counts switches events
    pub written : Appends old new (cascade_text switches events)
    pub heard : HearsEarly contents switches start t.early events

  -- events are told, all that happen before a frame of the list that comes at `until`
  pub record ToldUntil (w : Cascade) (t : Teller D) (start : Option (Watched D)) (old new : Known)
      (past : List Line) (until : ℕ) : Type 0 where
    pub events : List SwitchEvent
    pub first : AreFirst switches past until events
    pub told : HasTold w t start old new events

  -- these lines are told, and what happens before the last of them; no cable has a frame then
  pub record AreTold (w : Cascade) (t : Teller D) (start : Option (Watched D)) (old new : Known)
      (past : List Line) : Type 0 where
    pub events : List SwitchEvent
    pub first : AreFirst switches past (latest_line past) events
    pub at_line : EndsAtLine switches past events
    pub brought : HaveBroughtAll (plan_of switches) events
    pub told : HasTold w t start old new events
