-- What a run that polices one link answers and writes.
use Rattle.std.specs.Prelude.{ℕ, ◌≡◌, List, length, Option, Result, Ok, Err}
use Rattle.std.specs.Io.KnownBytes.{Appends}
use Rattle.afdx_police.specs.Arrival.{Arrival}
use Rattle.afdx_police.specs.Rule.{Rule}
use Rattle.afdx_input_lines.specs.Lines.{lines_of}
use Rattle.afdx_input_lines.specs.Calls.{AppendsFront}
use Rattle.afdx_input_lines.specs.declared.fault.RunFault.{RunFault}
use Rattle.afdx_command_tables.specs.declared.summary.Summary.{Summary}
use Rattle.afdx_input_sources.specs.Listed.{AreSound, arrivals_of}
use Rattle.afdx_input_sources.specs.Stops.{StopsAt}
use Rattle.afdx_replay.specs.policing.Text.{text_of, counts_of}

-- the output, which held `old`, now holds the text of these arrivals after it
abbrev pub WritesText : Rule → Option (List ℕ) → Option (List ℕ) → List Arrival → Type 0
WritesText rule old new past = Appends old new (text_of rule past)

-- the same of a beginning of that text
abbrev pub WritesBeginning : Rule → Option (List ℕ) → Option (List ℕ) → List Arrival → Type 0
WritesBeginning rule old new past = AppendsFront old new (text_of rule past)

-- all lines were read, none has a fault, and their text is written and counted
pub record WritesAll (rule : Rule) (lines : List (List ℕ)) (old new : Option (List ℕ))
    (summary : Summary) : Type 0 where
  pub sound : AreSound lines (length lines)
  pub written : WritesText rule old new (arrivals_of lines (length lines))
  pub counted : summary ≡ counts_of rule (length lines) (arrivals_of lines (length lines))

-- what a run answers that is given a list of these bytes, after which the input has `rest` and the
-- output `new`
abbrev pub Answers : Rule → List ℕ → Option (List ℕ) → Option (List ℕ) → Option (List ℕ) →
    Result Summary RunFault → Type 0
Answers rule bytes rest old new (Ok summary) = WritesAll rule (lines_of bytes) old new summary
Answers rule bytes rest old new (Err fault) =
    StopsAt (WritesText rule old new) (WritesBeginning rule old new) bytes rest fault
