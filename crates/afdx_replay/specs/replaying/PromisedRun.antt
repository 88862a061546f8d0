-- What a run writes and answers whose tables are admitted: the text of lines that keep the
-- promises.
use Rattle.std.specs.Prelude.{ℕ, ◌≡◌, List, length, Option, Result, Ok, Err}
use Rattle.std.specs.Io.KnownBytes.{Appends}
use Rattle.afdx_config.specs.Rows.{Rows}
use Rattle.afdx_police.specs.Arrival.{Arrival}
use Rattle.afdx_input_lines.specs.Lines.{lines_of}
use Rattle.afdx_input_lines.specs.Calls.{AppendsFront}
use Rattle.afdx_input_lines.specs.declared.fault.RunFault.{RunFault}
use Rattle.afdx_law_promises.specs.Lines.{Line}
use Rattle.afdx_law_promises.specs.Promises.{KeepsPromises, KeepsPromisesSoFar, EachIsToldOnce, EachIsToldOnceSoFar, StreamsAreAccepted}
use Rattle.afdx_input_sources.specs.Listed.{AreSound, arrivals_of}
use Rattle.afdx_replay.specs.replaying.Promises.{text_of, AreListed}
use Rattle.afdx_input_sources.specs.Stops.{StopsAt}
use Rattle.afdx_command_tables.specs.declared.summary.Summary.{Summary}

-- of these arrivals and of all that leaves the output, which held `old`, now holds after it the
-- text of lines that keep the promises, and nothing is lost or too old
pub record IsAsPromised (t : Rows) (arrivals : List Arrival) (old new : Option (List ℕ))
    (summary : Summary) : Type 0 where
  pub lines : List Line
  pub written : Appends old new (text_of t lines)
  pub promises : KeepsPromises t arrivals lines
  pub accepted : StreamsAreAccepted t arrivals lines
  pub once : EachIsToldOnce t arrivals lines
  pub once_so_far : EachIsToldOnceSoFar t arrivals lines
  pub none_lost : summary.lost ≡ 0
  pub none_old : summary.too_old ≡ 0

-- all lines of the list were read, none has a fault, and what is written of its arrivals is as
-- promised
pub record WritesPromised (t : Rows) (list : List (List ℕ)) (old new : Option (List ℕ))
    (summary : Summary) : Type 0 where
  pub sound : AreSound list (length list)
  pub listed : AreListed list (length list)
  pub promised : IsAsPromised t (arrivals_of list (length list)) old new summary

-- the same of the lines up to the last of these arrivals
pub record WritesPromisedSoFar (t : Rows) (old new : Option (List ℕ)) (past : List Arrival) :
    Type 0 where
  pub lines : List Line
  pub written : Appends old new (text_of t lines)
  pub promises : KeepsPromisesSoFar t past lines
  pub accepted : StreamsAreAccepted t past lines

-- a beginning of the text of all lines of these arrivals is written
pub record WritesPromisedSome (t : Rows) (old new : Option (List ℕ)) (past : List Arrival) :
    Type 0 where
  pub lines : List Line
  pub written : AppendsFront old new (text_of t lines)
  pub promises : KeepsPromises t past lines
  pub accepted : StreamsAreAccepted t past lines

-- What a run answers that is given a list of these bytes, after which the input has `rest` and the
-- output `new`. After a fault of the list all is told of the lines before it; where a device fails
-- or memory is refused, as `StopsAt` says.
abbrev pub PromisedAnswers : Rows → List ℕ → (rest old new : Option (List ℕ)) →
    Result Summary RunFault → Type 0
PromisedAnswers t bytes rest old new (Ok summary) =
    WritesPromised t (lines_of bytes) old new summary
PromisedAnswers t bytes rest old new (Err fault) =
    StopsAt (WritesPromisedSoFar t old new) (WritesPromisedSome t old new) bytes rest fault
