-- What a run writes and answers, whose tables are admitted or not: the text of events that are
-- those of the definition of an output port.
use Rattle.std.specs.Prelude.{ℕ, ◌≡◌, List, length, Option, Result, Ok, Err}
use Rattle.std.specs.Io.KnownBytes.{Appends}
use Rattle.afdx_config.specs.Lawful.{IsLawfulSwitch}
use Rattle.afdx_config.specs.Rows.{Rows}
use Rattle.afdx_police.specs.Arrival.{Arrival}
use Rattle.afdx_input_lines.specs.Lines.{lines_of}
use Rattle.afdx_input_lines.specs.Calls.{AppendsFront}
use Rattle.afdx_input_lines.specs.declared.fault.RunFault.{RunFault}
use Rattle.afdx_network.specs.Events.{Event}
use Rattle.afdx_law_promises.specs.ByDefinition.{AreByDefinition, AreByDefinitionSoFar}
use Rattle.afdx_input_sources.specs.Listed.{AreSound, arrivals_of}
use Rattle.afdx_replay.specs.replaying.Replayed.{Answers}
use Rattle.afdx_replay.specs.replaying.Promises.{AreListed}
use Rattle.afdx_command_tables.specs.Counts.{with_lines}
use Rattle.afdx_replay.specs.replaying.Text.{replay_text, replay_counts}
use Rattle.afdx_input_sources.specs.Stops.{StopsAt}
use Rattle.afdx_command_tables.specs.declared.summary.Summary.{Summary}

-- all lines of the list were read, none has a fault, and the output, which held `old`, now holds
-- after it the text of all events of its arrivals, by the definition, and they are counted
pub record WritesDefined (t : Rows) (list : List (List ℕ)) (old new : Option (List ℕ))
    (summary : Summary) : Type 0 where
  pub sound : AreSound list (length list)
  pub listed : AreListed list (length list)
  pub events : List Event
  pub are : AreByDefinition t (arrivals_of list (length list)) events
  pub written : Appends old new (replay_text t events)
  pub counted : summary ≡ with_lines (replay_counts t events) (length list)

-- the same of the events up to the last of these arrivals
pub record WritesDefinedSoFar (t : Rows) (old new : Option (List ℕ)) (past : List Arrival) :
    Type 0 where
  pub events : List Event
  pub are : AreByDefinitionSoFar t past events
  pub written : Appends old new (replay_text t events)

-- a beginning of the text of all events of these arrivals is written
pub record WritesDefinedSome (t : Rows) (old new : Option (List ℕ)) (past : List Arrival) :
    Type 0 where
  pub events : List Event
  pub are : AreByDefinition t past events
  pub written : AppendsFront old new (replay_text t events)

-- What a run answers that is given a list of these bytes, after which the input has `rest` and the
-- output `new`. After a fault of the list all is told of the lines before it; where a device fails
-- or memory is refused, as `StopsAt` says.
abbrev pub DefinedAnswers : Rows → List ℕ → (rest old new : Option (List ℕ)) →
    Result Summary RunFault → Type 0
DefinedAnswers t bytes rest old new (Ok summary) =
    WritesDefined t (lines_of bytes) old new summary
DefinedAnswers t bytes rest old new (Err fault) =
    StopsAt (WritesDefinedSoFar t old new) (WritesDefinedSome t old new) bytes rest fault

-- so it is with what a run of lawful tables answers
abbrev pub RunsAreByDefinition : Type 0
RunsAreByDefinition = (t : Rows) (bytes : List ℕ) (rest old new : Option (List ℕ))
    (r : Result Summary RunFault) →
    IsLawfulSwitch t →
    Answers t bytes rest old new r →
    DefinedAnswers t bytes rest old new r
