-- What the command conform does, whatever its run answers.
use Rattle.std.specs.Prelude.{ℕ, ◌≡◌, ◌⊎◌, Bool, List, Option, Some, None, Result, Ok, Err, OnOk, IfErr}
use Rattle.std.specs.Prelude.{codes, option_and_then, option_map, slice_get}
use Rattle.afdx_command_tables.specs.Checking.{IsRead}
use Rattle.afdx_command_tables.specs.Taking.{IsUnread}
use Rattle.afdx_config.specs.Rows.{Rows}
use Rattle.afdx_config.specs.Switches.{switch_named}
use Rattle.afdx_config.specs.declared.describing.Described.{Described}
use Rattle.afdx_config.specs.declared.describing.Described.TheVariants.{One, Several}
use Rattle.afdx_input_runs.specs.declared.seen_frames.SeenCount.{SeenCount}
use Rattle.afdx_input_lines.specs.Calls.{is_failed_read, is_failed_write}
use Rattle.afdx_input_lines.specs.Faults as lists
use Rattle.afdx_input_lines.specs.declared.fault.RunFault.{RunFault}
use Rattle.afdx_input_lines.specs.declared.watched.Watched.{Watched}
use Rattle.afdx_text.specs.Telling.{Tells, TellsFault}
use Rattle.afdx_command_conform.specs.Totals.{answer_status}
use Rattle.afdx_command_conform.specs.declared.command.Judged.{Judged}
use Rattle.afdx_command_conform.specs.declared.command.Question.{Question}
use Rattle.afdx_command_conform.specs.declared.run.RunCounts.{RunCounts}

-- the tables of the switch that is judged: the one switch where none is named, else the one of this
-- name
abbrev pub tables_judged : Described → Option (List ℕ) → Option Rows
tables_judged (One t) None = Some t
tables_judged (One t) (Some name) = None
tables_judged (Several switches) None = None
tables_judged (Several switches) (Some name) =
    option_and_then (λ k. option_map (λ s. s.rows) (slice_get switches k))
    (switch_named switches name)

-- what is told where there is no such switch
abbrev pub no_switch_line : List ℕ
no_switch_line = codes "words NoSuchSwitch\n"

-- the exit status of what a run answers, and what was read, if the last line was written
abbrev pub status_of_answer : Result RunCounts RunFault → ℕ
status_of_answer (Ok counted) = answer_status counted.conclusion.answer
status_of_answer (Err fault) = lists.status_of fault

abbrev pub count_of_answer : Result RunCounts RunFault → Option SeenCount
count_of_answer (Ok counted) = Some counted.count
count_of_answer (Err fault) = None

-- so the command ends where no last line is written
abbrev pub ended_with : ℕ → Judged
ended_with status = record { status = status; count = None }

-- what the error output is told, and the exit status
module _ {E : Type 0} (error_bytes : E → Option (List ℕ)) (old new : Watched E) where
  -- a run answered so: a fault is told in one line, and nothing else
  pub record EndsAs (ended : Judged) (answer : Result RunCounts RunFault) : Type 0 where
    pub status_is : ended.status ≡ status_of_answer answer
    pub count_is : ended.count ≡ count_of_answer answer
    pub told : IfErr answer (TellsFault error_bytes old new)
    pub silent : OnOk answer (new ≡ old)

  -- there is no such switch
  pub record IsToldNoSwitch (status : ℕ) : Type 0 where
    pub status_is : status ≡ 2
    pub told : Tells error_bytes old new no_switch_line

-- a run that answers so came to the end of its inputs, or one of its devices failed
pub record IsRun (all_read : Type 0) (input_failed output_failed : Bool)
    (answer : Result RunCounts RunFault) : Type 0 where
  pub ended : OnOk answer all_read
  pub read : input_failed ≡ is_failed_read answer
  pub write : output_failed ≡ is_failed_write answer

-- the name of the switch, if one is asked for
abbrev pub name_in : Question → Option (List ℕ)
name_in question = option_map (λ name. name.now) question.switch

-- what is judged, by a configuration and a name
module _ {E : Type 0} (error_bytes : E → Option (List ℕ)) (config : List ℕ)
    (name : Option (List ℕ)) (old new : Watched E) (ended : Judged) where
  -- a run by the tables of the switch, of what is described, ended the command; of it this holds
  pub record IsJudged (ran : Described → Rows → Result RunCounts RunFault → Type 0) : Type 0 where
    pub described : Described
    pub read : IsRead config described
    pub tables : Rows
    pub judged : tables_judged described name ≡ Some tables
    pub answer : Result RunCounts RunFault
    pub ends : EndsAs error_bytes old new ended answer
    pub runs : ran described tables answer

  -- the configuration describes no such switch
  pub record HasNoSwitch : Type 0 where
    pub described : Described
    pub read : IsRead config described
    pub unjudged : tables_judged described name ≡ None
    pub told : IsToldNoSwitch error_bytes old new ended.status

  -- there are no tables to judge by
  abbrev pub IsUnjudged : Type 0
  IsUnjudged = (ended.count ≡ None)
      × (IsUnread error_bytes old new config ended.status ⊎ HasNoSwitch)

  -- a run ended the command, or there are no tables, and this holds
  abbrev pub IsAnsweredOr : (Described → Rows → Result RunCounts RunFault → Type 0) → Type 0 →
      Type 0
  IsAnsweredOr ran untouched = IsJudged ran ⊎ (IsUnjudged × untouched)

-- of what is asked of a switch
abbrev pub IsJudgedOr : {E : Type 0} → (E → Option (List ℕ)) → Question → (old new : Watched E) →
    Judged → (Described → Rows → Result RunCounts RunFault → Type 0) → Type 0 → Type 0
IsJudgedOr error_bytes question =
    IsAnsweredOr error_bytes question.config.now (name_in question)
