-- What the command `solve` does with a file, which describes one switch on a side or several.
use Rattle.std.specs.Prelude.{ℕ, ◌≡◌, ◌⊎◌, true, false, List, [], Option, Some}
use Rattle.std.specs.Io.KnownBytes.{Appends}
use Rattle.afdx_frame.specs.Lines.{first_false}
use Rattle.afdx_config.specs.Admission.{IsAdmitted}
use Rattle.afdx_config.specs.Asked.{lists}
use Rattle.afdx_config.specs.Files.{Describes, IsFileFaultKeeping}
use Rattle.afdx_config.specs.Reading.{Spells}
use Rattle.afdx_config.specs.Rows.{Rows}
use Rattle.afdx_config.specs.Switches.{NamedRows, AreSwitches}
use Rattle.afdx_config.specs.ToSolve.{IsToSolve}
use Rattle.afdx_config.specs.declared.describing.Described.TheVariants as described
use Rattle.afdx_config.specs.declared.file_fault.FileFault.{FileFault}
use Rattle.afdx_config.specs.declared.reading_to_solve.ToSolve.{ToSolve}
use Rattle.afdx_config.specs.declared.reading_to_solve.ToSolve.TheVariants.{One, Several}
use Rattle.afdx_admit.specs.Cascade.{IsCascadeAdmitted, cascade_lines}
use Rattle.afdx_admit.specs.Lines.{lines}
use Rattle.afdx_admit.specs.declared.cascade_fault.CascadeFault.{CascadeFault}
use Rattle.afdx_admit.specs.declared.fault.AdmitFault.{AdmitFault}
use Rattle.afdx_solve.specs.CascadeText.{cascade_text}
use Rattle.afdx_solve.specs.ConfigText.{config_text}
use Rattle.afdx_solve.specs.Laws.{IsLeast}
use Rattle.afdx_solve.specs.Short.{first_short, first_short_at, EachLeaves, EachLeavesAt}
use Rattle.afdx_solve.specs.Solved.{solved}
use Rattle.afdx_solve.specs.SolvedCascade.{IsLeastSolution, MayStandFor, AreAtMost, NoneIsAdmitted}
use Rattle.afdx_solve.specs.SolvedCascade.{IsAdmittedApart}
use Rattle.afdx_solve.specs.declared.short.Short.{Short}
use Rattle.afdx_solve.specs.declared.short.ShortAt.{ShortAt}
use Rattle.afdx_solve.specs.declared.options.SolveOptions.{SolveOptions}
use Rattle.afdx_input_lines.specs.Calls.{AppendsFront}
use Rattle.afdx_input_lines.specs.Watching.{device_of, has_failed}
use Rattle.afdx_input_lines.specs.declared.watched.Watched.{Watched}
use Rattle.afdx_input_lines.specs.declared.fault.RunFault.TheVariants as run
use Rattle.afdx_text.specs.Telling.{Tells, TellsFault}
use Rattle.afdx_command_tables.specs.CascadeText.{cascade_fault_line}
use Rattle.afdx_command_tables.specs.CheckText.{fault_line}
use Rattle.afdx_command_tables.specs.Refusals.{file_line, IsToldRefused, WantsMemory}
use Rattle.afdx_command_tables.specs.SolveText.{needs_text, cascade_needs_text, short_line}
use Rattle.afdx_command_tables.specs.SolveText.{short_line_at}

-- ---- one switch

-- This text is that of the tables with just the solved keys changed, and spells them. They are
-- admitted, and each key that is neither kept nor only raised is the least; each link leaves the
-- copies of its frames what is asked for. These needs are told.
pub record IsSolutionOfOne (o : SolveOptions) (t : Rows) (asked : List (Option ℕ))
    (text needs : List ℕ) : Type 0 where
  pub layout : text ≡ config_text (solved o t)
  pub spells : Spells text (solved o t)
  pub admitted : IsAdmitted (solved o t)
  pub least : o.raise_only ≡ false → IsLeast o (solved o t)
  pub leaves : EachLeaves o.apart (solved o t)
  pub told : needs ≡ needs_text [] (solved o t) asked

-- The tables, with their keys at what they take, aren't admitted: this text is the first line of
-- admission that is false.
pub record IsDenialOfOne (o : SolveOptions) (t : Rows) (text : List ℕ) : Type 0 where
  pub denied : IsAdmitted (solved o t) → ⊥
  pub fault : AdmitFault
  pub first : first_false (lines (solved o t)) ≡ Some fault
  pub said : text ≡ fault_line (solved o t) fault

-- They are admitted, but a link leaves less: this text says so of the first one.
pub record IsShortOfOne (o : SolveOptions) (t : Rows) (text : List ℕ) : Type 0 where
  pub admitted : IsAdmitted (solved o t)
  pub short : Short
  pub first : first_short o.apart (solved o t) ≡ Some short
  pub said : text ≡ short_line short

-- ---- several switches

-- This text is that of the switches with just the solved keys changed, and describes them. They are
-- admitted, and no admitted switches that the file could describe in their place, and whose skews
-- allow for copies that are sent so far apart, have a smaller value anywhere; each link leaves the
-- copies of its frames what is asked for. These needs are told.
pub record IsSolutionOfSeveral (o : SolveOptions) (file : List NamedRows)
    (asked : List (List (Option ℕ))) (text needs : List ℕ) : Type 0 where
  pub switches : List NamedRows
  pub solution : IsLeastSolution o file switches
  pub layout : text ≡ cascade_text switches
  pub spells : Describes text (described.Several switches)
  pub admitted : IsCascadeAdmitted switches
  pub least : (others : List NamedRows) → AreSwitches others → IsAdmittedApart o others →
      MayStandFor o file others → AreAtMost switches others
  pub leaves : EachLeavesAt o.apart switches
  pub told : needs ≡ cascade_needs_text switches asked

-- The switches, with their keys at what they take, aren't admitted: this text is the first line of
-- admission that is false. Nor are any that the file could describe in their place, and whose skews
-- allow for such copies.
pub record IsDenialOfSeveral (o : SolveOptions) (file : List NamedRows) (text : List ℕ) :
    Type 0 where
  pub switches : List NamedRows
  pub solution : IsLeastSolution o file switches
  pub none : NoneIsAdmitted o file
  pub fault : CascadeFault
  pub first : first_false (cascade_lines switches) ≡ Some fault
  pub said : text ≡ cascade_fault_line switches fault

-- They are admitted, but a row leaves less: this text says so of the first one.
pub record IsShortOfSeveral (o : SolveOptions) (file : List NamedRows) (text : List ℕ) :
    Type 0 where
  pub switches : List NamedRows
  pub solution : IsLeastSolution o file switches
  pub admitted : IsCascadeAdmitted switches
  pub short : ShortAt
  pub first : first_short_at o.apart switches ≡ Some short
  pub said : text ≡ short_line_at switches short

-- ---- what a file describes

abbrev pub IsSolutionOf : SolveOptions → ToSolve → (text needs : List ℕ) → Type 0
IsSolutionOf o (One t asked) text needs = IsSolutionOfOne o t asked.items text needs
IsSolutionOf o (Several file asked) text needs =
    IsSolutionOfSeveral o file (lists asked.items) text needs

abbrev pub IsDenialOf : SolveOptions → ToSolve → (text : List ℕ) → Type 0
IsDenialOf o (One t asked) text = IsDenialOfOne o t text ⊎ IsShortOfOne o t text
IsDenialOf o (Several file asked) text =
    IsDenialOfSeveral o file text ⊎ IsShortOfSeveral o file text

-- the configuration is read, and what it describes is solved so
pub record IsSolution (o : SolveOptions) (config text needs : List ℕ) : Type 0 where
  pub file : ToSolve
  pub read : IsToSolve o.kept config file
  pub solution : IsSolutionOf o file text needs

-- it is read, and there is no solution
pub record IsDenial (o : SolveOptions) (config text : List ℕ) : Type 0 where
  pub file : ToSolve
  pub read : IsToSolve o.kept config file
  pub denial : IsDenialOf o file text

-- how the command ends, by what its output and its error output were and are
module _ {O E : Type 0} (o : SolveOptions) (bytes : O → Option (List ℕ))
    (error_bytes : E → Option (List ℕ)) (config : List ℕ) (old new : Watched O × Watched E) where
  -- the solution is written, and its needs are told
  pub record IsSolved : Type 0 where
    pub text : List ℕ
    pub needs : List ℕ
    pub solution : IsSolution o config text needs
    pub written : Appends (bytes (device_of old.0)) (bytes (device_of new.0)) text
    pub told : Tells error_bytes old.1 new.1 needs

  -- there is none, and the line that says so is written
  pub record IsUnsolved : Type 0 where
    pub text : List ℕ
    pub denial : IsDenial o config text
    pub written : Appends (bytes (device_of old.0)) (bytes (device_of new.0)) text
    pub told : new.1 ≡ old.1

  -- the configuration has a fault, and nothing is written
  pub record IsFaulty : Type 0 where
    pub fault : FileFault
    pub is_its : IsFileFaultKeeping o.kept config fault
    pub told : IsToldRefused error_bytes old.1 new.1 1 (file_line fault)
    pub written : new.0 ≡ old.0

  -- the output failed, and a beginning of what was to be written is
  pub record IsCut : Type 0 where
    pub failed : has_failed new.0 ≡ true
    pub text : List ℕ
    pub needs : List ℕ
    pub answer : IsSolution o config text needs ⊎ IsDenial o config text
    pub begun : AppendsFront (bytes (device_of old.0)) (bytes (device_of new.0)) text
    pub told : TellsFault error_bytes old.1 new.1 run.Write

  -- memory was refused, and nothing is written
  pub record IsUnmade : Type 0 where
    pub told : WantsMemory error_bytes old.1 new.1 4
    pub written : new.0 ≡ old.0
