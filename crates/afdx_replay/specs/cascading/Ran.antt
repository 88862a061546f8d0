-- What a replay of several switches a side writes, tells and counts. A list of lines has the newest
-- first.
use Rattle.std.specs.Prelude.{ℕ, ◌≡◌, ◌<◌, ◌≤◌, ◌*◌, List, [], length, reverse}
use Rattle.std.specs.Prelude.{Option, Some, Result, Ok, Err}
use Rattle.std.specs.Io.KnownBytes.{Appends}
use Rattle.afdx_frame.specs.declared.link.Side.{Side}
use Rattle.afdx_input_lines.specs.Lines.{lines_of as lines_in}
use Rattle.afdx_input_lines.specs.SitedLines.{SitedFrame}
use Rattle.afdx_input_lines.specs.declared.fault.RunFault.{RunFault}
use Rattle.afdx_input_sources.specs.Lists.{Kind, items_of, HaveNoFault}
use Rattle.afdx_input_sources.specs.Stops.{StopsIn}
use Rattle.afdx_command_tables.specs.Counts.{with_lines}
use Rattle.afdx_replay.specs.cascading.Sited.{sited_frames, sites_of}
use Rattle.afdx_cascade.specs.EndToEnd.{AreAllEvents}
use Rattle.afdx_cascade.specs.Kept.{KeepsEndToEnd, KeepsEndToEndSoFar}
use Rattle.afdx_cascade.specs.Parts.{AreOfList, BringsFirst, frames_of}
use Rattle.afdx_cascade.specs.Plans.{plan_of, tables_of}
use Rattle.afdx_cascade.specs.Receivers.{HaveBegun, lines_of, lines_so_far}
use Rattle.afdx_cascade.specs.Runs.{Line, Runs, AreAll}
use Rattle.afdx_cascade.specs.SwitchEvents.{End, SwitchEvent, FrameTest, accepted_by, at_switch}
use Rattle.afdx_cascade.specs.SwitchEvents.{HaveBroughtAll, came_to, count_if, passes}
use Rattle.afdx_network.specs.Order.{events_of}
use Rattle.afdx_command_tables.specs.declared.summary.Summary.{Summary}
use Rattle.afdx_config.specs.Switches.{AreSwitches, NamedRows}
use Rattle.afdx_input_lines.specs.Calls.{AppendsFront}
use Rattle.afdx_input_lines.specs.declared.watched.Watched.{Watched}
use Rattle.afdx_replay.specs.cascading.Early.{HearsEarly}
use Rattle.afdx_replay.specs.cascading.Text.{cascade_text, cascade_counts, own_text}
use Rattle.afdx_replay.specs.cascading.Told.{EndsAtLine}
use Rattle.afdx_replay.specs.declared.cascading.teller.Teller.{Teller}
use Rattle.afdx_admit.specs.Cascade.{IsCascadeAdmitted}
use Rattle.afdx_replay.specs.replaying.Promises.{TellsPromises, text_of}
use Rattle.afdx_replay.specs.replaying.Replayed.{Known}
use Rattle.afdx_replay.specs.replaying.Text.{replay_text}

-- what all events of some lines are at each part
pub record AreInParts (switches : List NamedRows) (lines : List Line) (events : List SwitchEvent) :
    Type 0 where
  -- the events at a switch are all events of its own tables and of what came to it
  pub own : (k : ℕ) → k < length switches →
      at_switch k events ≡ events_of (tables_of switches k) (came_to k events)
  -- so its lines, without its name, are the text of its own tables on what came to it
  pub alone : (k : ℕ) → k < length switches →
      own_text switches k events
      ≡ replay_text (tables_of switches k)
      (events_of (tables_of switches k) (came_to k events))
  -- so of admitted switches each keeps the promises of one
  pub promised : IsCascadeAdmitted switches → (k : ℕ) → k < length switches →
      TellsPromises (tables_of switches k) (came_to k events) (own_text switches k events)
  -- and its lines are those that tell all events of its own tables
  pub told : IsCascadeAdmitted switches → (k : ℕ) → k < length switches →
      own_text switches k events
      ≡ text_of (tables_of switches k) (lines_of switches events k)
  -- these are all events, and the lines came in time: so each law of the links holds of them
  pub whole : AreSwitches switches → IsCascadeAdmitted switches → AreAllEvents switches events
  -- from end to end: accepted once is accepted everywhere; what leaves, and when; alone; exactly
  -- once
  pub end_to_end : AreSwitches switches → IsCascadeAdmitted switches →
      KeepsEndToEnd switches events
  -- a cable brought what left the port at its other end, but for what left too late to arrive
  pub cables : HaveBroughtAll (plan_of switches) events
  -- a switch accepts no frame more often than the list has it, there are few events, and one list
  pub listed : AreOfList (plan_of switches) lines events

-- what the first events of some lines, which were all taken, are at each part
pub record AreInPartsSoFar (switches : List NamedRows) (taken : List Line)
    (events : List SwitchEvent) : Type 0 where
  -- the events at a switch are the first of all events of its own tables and of what came to it
  pub begun : HaveBegun switches events
  -- the lines of an admitted one are those that tell these
  pub told : IsCascadeAdmitted switches → (k : ℕ) → k < length switches →
      own_text switches k events
      ≡ text_of (tables_of switches k) (lines_so_far switches events k)
  -- from end to end, so far: accepted once is accepted everywhere; what has left, and what was
  -- told, is the first of what all events give
  pub end_to_end : AreSwitches switches → IsCascadeAdmitted switches →
      KeepsEndToEndSoFar switches events
  -- a cable brought the first of what left the port at its other end: all but one frame at most,
  -- which left last
  pub cables : (k port : ℕ) (side : Side) (other : End) →
      (plan_of switches).far_end k port ≡ Some other →
      BringsFirst side k port other events
  -- a switch accepts on a side, of any frames, at most as many as these lines have there
  pub once : (side : Side) (k : ℕ) (test : FrameTest) →
      count_if (passes side test) (accepted_by (tables_of switches k) (came_to k events))
      ≤ count_if (passes side test) (frames_of taken)
  -- there are few events for each line
  pub few : length events ≤ 1153 * length taken

module _ (switches : List NamedRows) (past : List Line) where
  -- these are all events of the lines
  abbrev pub AreAllOf : List SwitchEvent → Type 0
  AreAllOf events = AreAll (plan_of switches) (reverse past) events

  -- these are the first events of the lines, which were all taken
  abbrev pub AreFirstOf : List SwitchEvent → Type 0
  AreFirstOf events = Runs (plan_of switches) (reverse past) events []

  -- the output, which held `old`, now holds after it the text of all events of the lines, and they
  -- are counted
  pub record WritesAll (old new : Known) (counts : Summary) : Type 0 where
    pub events : List SwitchEvent
    pub all : AreAllOf events
    pub parts : AreInParts switches (reverse past) events
    pub written : Appends old new (cascade_text switches events)
    pub counted : counts ≡ cascade_counts switches events

  -- the same of the events up to the arrival of the last line's frame
  pub record WritesSoFar (old new : Known) : Type 0 where
    pub events : List SwitchEvent
    pub first : AreFirstOf events
    pub parts : AreInPartsSoFar switches past events
    pub at_line : EndsAtLine switches past events
    -- no cable has a frame then
    pub brought : HaveBroughtAll (plan_of switches) events
    pub written : Appends old new (cascade_text switches events)

  -- a beginning of the text of first events is written
  pub record WritesSome (old new : Known) : Type 0 where
    pub events : List SwitchEvent
    pub first : AreFirstOf events
    pub parts : AreInPartsSoFar switches past events
    pub written : AppendsFront old new (cascade_text switches events)

module _ {D : Type 0} (contents : D → Option (List ℕ)) (switches : List NamedRows)
    (past : List Line) (old new : Option (Watched D)) where
  -- a device, if there is one, was told of all frames that came too early; of those up to the last
  -- line's; or of those among first events, before which each line but perhaps the last was taken
  pub record HearsAll : Type 0 where
    pub events : List SwitchEvent
    pub all : AreAllOf switches past events
    pub heard : HearsEarly contents switches old new events

  pub record HearsSoFar : Type 0 where
    pub events : List SwitchEvent
    pub first : AreFirstOf switches past events
    pub at_line : EndsAtLine switches past events
    pub heard : HearsEarly contents switches old new events

  pub record HearsSome : Type 0 where
    pub events : List SwitchEvent
    pub left : List Line
    pub few : length left ≤ 1
    pub first : Runs (plan_of switches) (reverse past) events left
    pub heard : HearsEarly contents switches old new events

-- what is written of lines, and told a device, if there is one
module _ {D : Type 0} (contents : D → Option (List ℕ)) (switches : List NamedRows)
    (past : List Line) (first last : Option (Watched D)) (old new : Known) where
  -- all to the end, which is counted
  abbrev pub AllIsTold : Summary → Type 0
  AllIsTold counts =
      WritesAll switches past old new counts × HearsAll contents switches past first last

  -- all up to the last line
  abbrev pub AllSoFarIsTold : Type 0
  AllSoFarIsTold =
      WritesSoFar switches past old new × HearsSoFar contents switches past first last

  -- or a beginning
  abbrev pub SomeIsTold : Type 0
  SomeIsTold = WritesSome switches past old new × HearsSome contents switches past first last

-- so the counts and the device of a teller say, whose device was `first`
module _ {D : Type 0} (contents : D → Option (List ℕ)) (switches : List NamedRows)
    (past : List Line) (first : Option (Watched D)) (t : Teller D) (old new : Known) where
  abbrev pub TellerToldAll : Type 0
  TellerToldAll = AllIsTold contents switches past first t.early old new t.counts

  abbrev pub TellerToldSome : Type 0
  TellerToldSome = SomeIsTold contents switches past first t.early old new

-- ---- a list of several switches

module _ (switches : List NamedRows) where
  -- the kind of list that names them
  abbrev pub lists : Kind SitedFrame Line
  lists = sited_frames (sites_of switches)

  -- all lines were read, none has a fault, and the text of all events of their frames is written,
  -- and they are counted
  pub record WritesList (list : List (List ℕ)) (old new : Known) (summary : Summary) : Type 0 where
    pub sound : HaveNoFault lists list (length list)
    pub counts : Summary
    pub told : WritesAll switches (items_of lists list (length list)) old new counts
    pub counted : summary ≡ with_lines counts (length list)

  -- what a replay answers that is given a list of these bytes, after which the input has `rest` and
  -- the output `new`
  abbrev pub Answers : List ℕ → (rest old new : Known) → Result Summary RunFault → Type 0
  Answers bytes rest old new (Ok summary) = WritesList (lines_in bytes) old new summary
  Answers bytes rest old new (Err fault) =
      StopsIn lists (λ past. WritesSoFar switches past old new)
      (λ past. WritesSome switches past old new) bytes rest fault
