-- What a replay answers, writes and tells, whatever gives it its arrivals.
use Rattle.std.specs.Prelude.{ℕ, ◌≡◌, ◌⊎◌, Bool, true, List, Option, None, Result, IfSome}
use Rattle.std.specs.Io.KnownBytes.{Appends}
use Rattle.afdx_config.specs.Admission.{IsAdmitted}
use Rattle.afdx_config.specs.Lawful.{IsLawfulSwitch}
use Rattle.afdx_config.specs.Rows.{Rows}
use Rattle.afdx_config.specs.Switches.{NamedRows}
use Rattle.afdx_config.specs.declared.describing.Described.{Described}
use Rattle.afdx_config.specs.declared.describing.Described.TheVariants.{One, Several}
use Rattle.afdx_command_tables.specs.Checking.{IsAdmittedFile, IsRead}
use Rattle.afdx_police.specs.Arrival.{Arrival}
use Rattle.afdx_input_lines.specs.declared.fault.RunFault.{RunFault}
use Rattle.afdx_input_lines.specs.declared.frame_line.Heading.{Heading}
use Rattle.afdx_input_lines.specs.declared.watched.Watched.{Watched}
use Rattle.afdx_network.specs.Order.{events_of}
use Rattle.afdx_input_runs.specs.Arrivals.{By, ListTaking, TakesFrames}
use Rattle.afdx_input_runs.specs.declared.input_run.InputCount.{InputCount}
use Rattle.afdx_command_tables.specs.declared.summary.Summary.{Summary}
use Rattle.afdx_input_sources.specs.Claims.{Ports, ports_of_one, ports_of_several}
use Rattle.afdx_input_sources.specs.Engine.{Item}
use Rattle.afdx_input_sources.specs.Items.{arrivals}
use Rattle.afdx_replay.specs.Inputs.{EndsInputAs, Taking, answer_of}
use Rattle.afdx_replay.specs.Placed.{ArePlacedIn, IsNotRun}
use Rattle.afdx_replay.specs.cascading.Input as cascade
use Rattle.afdx_replay.specs.replaying.Early.{HearsEarly, HearsMost}
use Rattle.afdx_replay.specs.replaying.PromisedRun.{IsAsPromised, WritesPromisedSoFar, WritesPromisedSome}
use Rattle.afdx_replay.specs.replaying.Replayed.{Known, WritesSoFar, WritesSome}
use Rattle.afdx_replay.specs.replaying.Text.{replay_text, replay_counts}
use Rattle.afdx_replay.specs.declared.input_ending.InputEnded.{InputEnded}
use Rattle.afdx_replay.specs.declared.input_ending.InputSummary.{InputSummary}
use Rattle.afdx_replay.specs.declared.replaying.input_command.ReplaySettings.{ReplaySettings}

-- with this answer a device was told of these arrivals
abbrev pub Hearing : Type 1
Hearing = List Arrival → Result InputCount RunFault → Type 0

module _ (t : Rows) (past : List Arrival) where
  -- the counts of all their events
  abbrev pub counts_of : Summary
  counts_of = replay_counts t (events_of t past)

  module _ (count : Result InputCount RunFault) where
    -- the output, which held `old`, now holds after it the text of all events of these arrivals;
    -- after a fault of the input, up to the last arrival; where a device fails, or memory is
    -- refused, a beginning of that text
    abbrev pub Writes : (old new : Known) → Type 0
    Writes old new =
        By count (Appends old new (replay_text t (events_of t past))) (WritesSoFar t old new past)
        (WritesSome t old new past)

    -- and this is the text of lines that keep the promises
    abbrev pub WritesPromised : (old new : Known) → Type 0
    WritesPromised old new =
        By count (IsAsPromised t past old new counts_of) (WritesPromisedSoFar t old new past)
        (WritesPromisedSome t old new past)

    -- a device, if there is one, was told of those that came too early, or of all but the newest
    abbrev pub Hears : {D : Type 0} → (D → Option (List ℕ)) → (old new : Option (Watched D)) →
        Type 0
    Hears contents old new =
        By count (HearsEarly contents t old new past) (HearsEarly contents t old new past)
        (HearsMost contents t old new past)

-- What a replay does in the tables `t` that answers so: it has taken some arrivals, and counts and
-- writes what they mean; if the tables are admitted, as promised.
pub record Replays (t : Rows) (takes : Taking) (hears : Hearing) (old new : Known)
    (answer : Result InputSummary RunFault) : Type 0 where
  pub items : List (Item Heading)
  pub count : Result InputCount RunFault
  pub taken : takes items count
  pub answered : answer ≡ answer_of (counts_of t (arrivals items)) count
  pub written : Writes t (arrivals items) count old new
  pub promised : IsLawfulSwitch t → IsAdmitted t → WritesPromised t (arrivals items) count old new
  pub heard : hears (arrivals items) count

-- of several switches, what such options say is there
abbrev pub IsThere : {P : Type 0} → (there : List NamedRows → P → Type 0) → P → Described → Type 0
IsThere there options (One t) = Unit {0}
IsThere there options (Several switches) = there switches options

-- what a replay does, by what a configuration describes, over an input of some kind: how its bytes
-- are known, and what of these a run takes, of which a list's lines name the switches where there
-- are several on a side
module _ {P I B D : Type 0} (known : I → Option B)
    (takes : ListTaking → P → Ports → B → I → Taking) (contents : D → Option (List ℕ)) where
  -- so it is with this answer, by these options, over the input `first`, which is then `last`, with
  -- an output that held `old` and holds `new`, and a device `start` that is handed back as `early`
  abbrev pub ReplaysBy : P → (first last : I) → (start early : Option (Watched D)) →
      (old new : Known) → Result InputSummary RunFault → Described → Type 0
  ReplaysBy options first last start early old new answer (One t) =
      IfSome (known first) (λ bytes.
      Replays t (takes TakesFrames options (ports_of_one t) bytes last)
      (λ past count. Hears t past count contents start early) old new answer)
  ReplaysBy options first last start early old new answer (Several switches) =
      cascade.Replays contents switches start early old new (known first)
      (λ bytes. takes (cascade.TakesSited switches) options (ports_of_several switches) bytes last)
      answer

-- a run by what the configuration describes, which is admitted if that is asked for
pub record RunsIn (config : List ℕ) (admission : Bool) (so : Described → Type 0) : Type 0 where
  pub described : Described
  pub read : IsRead config described
  pub admitted : admission ≡ true → IsAdmittedFile described
  pub so_is : so described

-- The command ends as its run answered: `so` is true of the answer, by the options with their
-- places in what the configuration describes, which is admitted if that is asked for. Or it isn't
-- run, the error output is told why, the device is handed back as it was, and what else it was
-- given is `untouched`.
abbrev pub EndsInput : {P D E : Type 0} → (Placed : Described → P → P → Type 0) →
    (Misplaced : Described → P → Type 0) → (error_bytes : E → Option (List ℕ)) →
    ReplaySettings P D → (old_errors new_errors : Watched E) →
    (all_read : Type 0) → (input_failed output_failed : Bool) → InputEnded × Option (Watched D) →
    (so : P → Result InputSummary RunFault → Described → Type 0) → (untouched : Type 0) → Type 0
EndsInput Placed Misplaced error_bytes asked old_errors new_errors all_read input_failed
    output_failed ended so untouched =
    ((answer : Result InputSummary RunFault)
    × EndsInputAs error_bytes all_read input_failed output_failed old_errors new_errors ended.0
    answer
    × RunsIn asked.config.now asked.admission
    (λ d. ArePlacedIn Placed asked.options d (λ placed. so placed answer d)))
    ⊎ (IsNotRun Placed asked.options Misplaced error_bytes old_errors new_errors asked.config.now
    asked.admission ended.0.ended.status × (ended.0.tally ≡ None) × (ended.1 ≡ asked.early)
    × untouched)
