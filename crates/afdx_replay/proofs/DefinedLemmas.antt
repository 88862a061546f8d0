-- What a replay of tables that are admitted or not tells is by the definition of an output port.
use Rattle.std.proofs.Common.{ℕ, List, length}
use Rattle.std.specs.Prelude.{Option, Some, None, Result, Ok, Err, IfSome}
use Rattle.afdx_config.specs.Lawful.{IsLawfulSwitch}
use Rattle.afdx_config.specs.Rows.{Rows}
use Rattle.afdx_input_lines.specs.Lines.{lines_of}
use Rattle.afdx_input_lines.specs.declared.fault.RunFault.{RunFault}
use Rattle.afdx_network.specs.Order.{events_of, events_so_far}
use Rattle.afdx_network.proofs.OrderedLemmas.{are-events, are-so-far}
use Rattle.afdx_law_promises.proofs.DefinitionLemmas.{events-by-definition, so-far-by-definition}
use Rattle.afdx_replay.specs.replaying.DefinedRun.{WritesDefinedSoFar, WritesDefinedSome, DefinedAnswers}
use Rattle.afdx_replay.specs.replaying.DefinedRun.{RunsAreByDefinition}
use Rattle.afdx_input_sources.specs.Listed.{frames, arrivals_of}
use Rattle.afdx_replay.specs.replaying.Replayed.{WritesSoFar, WritesSome, Answers}
use Rattle.afdx_command_tables.specs.declared.summary.Summary.{Summary}
use Rattle.afdx_replay.proofs.AdmittedRunLemmas.{arrivals-timed, arrivals-listed}
use Rattle.afdx_input_sources.proofs.RunLemmas.{stops-more}

module _ (t : Rows) (bytes : List ℕ) (old new : Option (List ℕ)) (lawful : IsLawfulSwitch t) where
  all-defined : (n : ℕ) → WritesSoFar t old new (arrivals_of (lines_of bytes) n)
      → WritesDefinedSoFar t old new (arrivals_of (lines_of bytes) n)
  all-defined n written =
      let past = arrivals_of (lines_of bytes) n in
      record {
        events = events_so_far t past;
        are = so-far-by-definition t past (events_so_far t past) lawful
            (arrivals-timed (lines_of bytes) n) (are-so-far t past);
        written = written;
      }

  some-defined : (n : ℕ) → WritesSome t old new (arrivals_of (lines_of bytes) n)
      → WritesDefinedSome t old new (arrivals_of (lines_of bytes) n)
  some-defined n written =
      let past = arrivals_of (lines_of bytes) n in
      record {
        events = events_of t past;
        are = events-by-definition t past (events_of t past) lawful
            (arrivals-timed (lines_of bytes) n) (are-events t past);
        written = written;
      }

  pub defined-answers : (rest : Option (List ℕ)) (r : Result Summary RunFault)
      → Answers t bytes rest old new r → DefinedAnswers t bytes rest old new r
  defined-answers rest (Err fault) stops =
      stops-more frames (WritesSoFar t old new) (WritesSome t old new) (WritesDefinedSoFar t old new)
      (WritesDefinedSome t old new) bytes rest all-defined some-defined fault stops
  defined-answers rest (Ok summary) all =
      let list = lines_of bytes in
      let past = arrivals_of list (length list) in
      record {
        sound = all.sound;
        listed = arrivals-listed list (length list);
        events = events_of t past;
        are = events-by-definition t past (events_of t past) lawful
            (arrivals-timed list (length list)) (are-events t past);
        written = all.written;
        counted = all.counted;
      }

pub runs-by-definition : RunsAreByDefinition
runs-by-definition t bytes rest old new r lawful answers = defined-answers t bytes old new lawful rest r answers

-- where the input's bytes are known
pub if-defined : (t : Rows) (o rest old new : Option (List ℕ)) (r : Result Summary RunFault)
    → IsLawfulSwitch t → IfSome o (λ bytes. Answers t bytes rest old new r)
    → IfSome o (λ bytes. DefinedAnswers t bytes rest old new r)
if-defined t None rest old new r lawful h = tt
if-defined t (Some bytes) rest old new r lawful h = defined-answers t bytes old new lawful rest r h
