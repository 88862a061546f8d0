-- What a replay tells conforms. Lists have the newest first.
use Rattle.std.specs.Prelude.{◌≡◌, ℕ, ◌<◌, false, None, List, [], length}
use Rattle.std.specs.Option.{ForSome}
use Rattle.afdx_config.specs.Lawful.{IsLawfulSwitch}
use Rattle.afdx_config.specs.Rows.{Rows}
use Rattle.afdx_config.specs.Switches.{NamedRows}
use Rattle.afdx_conform.specs.Leeways.{IsLeeway}
use Rattle.afdx_input_runs.specs.Joining.{Frame}
use Rattle.afdx_police.specs.Arrival.{Arrival}
use Rattle.afdx_law_bounds.specs.Outputs.{AreTimed}
use Rattle.afdx_switch.specs.Admitted.{IsAdmittedRun}
use Rattle.afdx_law_promises.specs.Lines.{Leaving, Line, left_in, told_by}
use Rattle.afdx_law_promises.specs.Promises.{KeepsPromises, told}
use Rattle.afdx_cascade.specs.Cascade.{StandsFor}
use Rattle.afdx_cascade.specs.EndToEnd.{AreAllEvents}
use Rattle.afdx_cascade.specs.Plans.{plan_of, tables_of}
use Rattle.afdx_cascade.specs.SwitchEvents.{SwitchEvent, at_switch, came_to}
use Rattle.afdx_cascade.specs.declared.cascade.Cascade.{Cascade}
use Rattle.afdx_text.specs.declared.conform_line.Answer.TheVariants.{Conforms, Deviates}
use Rattle.afdx_command_conform.specs.Choices.{Choices, until_or}
use Rattle.afdx_command_conform.specs.Lines.{AreLines}
use Rattle.afdx_command_conform.specs.Lines.{Due}
use Rattle.afdx_command_conform.specs.RunLaws.{AreOfRight, IsExactBy, NothingIsFound}
use Rattle.afdx_command_conform.specs.Tapped.{Taps, all_taps, of_tables}
use Rattle.afdx_command_conform.specs.VerdictLaws.{IsExercised, SomeLeft, answered}
use Rattle.afdx_law_text.specs.Leaving.{LeaveAsPromised}
use Rattle.afdx_law_text.specs.Recorded.{AreRecorded, AreRecordsOf, AreSameArrivals, LeaveInOrder, both_lists}

-- lines that keep the promises, as those of a replay of admitted tables do, tell of frames that
-- leave as promised
abbrev pub ToldLeaveAsPromised : Type 0
ToldLeaveAsPromised =
    (t : Rows) (arrivals : List Arrival) (lines : List Line) →
    IsLawfulSwitch t →
    KeepsPromises t arrivals lines →
    LeaveAsPromised t arrivals (left_in lines)

-- what is recorded of a switch whose frames leave as promised is that of a right switch by its
-- tables, whatever is asked: leeway, start, end, links that are left out, and recorded ports
abbrev pub PromisedIsRight : Type 0
PromisedIsRight =
    (t : Rows) (c : Choices) (taps : Taps) (until : ℕ) (arrivals : List Arrival)
    (left : List Leaving) (frames : List Frame) →
    IsLawfulSwitch t →
    AreTimed arrivals →
    LeaveAsPromised t arrivals left →
    c.sight ≡ of_tables t taps →
    AreRecorded taps arrivals left frames →
    ForSome c.until (λ end. until ≡ end) →
    AreOfRight t c until frames

-- ---- so it conforms

-- what is asked, by the tables and the ports that were recorded, of a recording of arrivals and of
-- these frames that left, and the lines of it
pub record AreLinesOf (t : Rows) (c : Choices) (arrivals : List Arrival) (left : List Leaving)
    (frames : List Frame) (lines : List Due) : Type 0 where
  pub leeway : IsLeeway c.by
  pub taps : Taps
  pub sees : c.sight ≡ of_tables t taps
  pub recorded : AreRecorded taps arrivals left frames
  pub are_lines : AreLines t c (until_or c.until frames) frames lines

-- no line is a finding
abbrev pub PromisedConforms : Type 0
PromisedConforms =
    (t : Rows) (c : Choices) (arrivals : List Arrival) (left : List Leaving) (frames : List Frame)
    (lines : List Due) →
    IsLawfulSwitch t →
    AreTimed arrivals →
    LeaveAsPromised t arrivals left →
    AreLinesOf t c arrivals left frames lines →
    NothingIsFound lines

-- and with exact stamps and clocks, from a reset on, there is no line at all
abbrev pub PromisedConformsExactly : Type 0
PromisedConformsExactly =
    (t : Rows) (c : Choices) (arrivals : List Arrival) (left : List Leaving) (frames : List Frame)
    (lines : List Due) →
    IsLawfulSwitch t →
    AreTimed arrivals →
    LeaveAsPromised t arrivals left →
    IsExactBy c.by →
    AreLinesOf t c arrivals left frames lines →
    lines ≡ []

-- so it is with the frames that the lines of a replay of admitted tables tell of
abbrev pub ReplaysConform : Type 0
ReplaysConform =
    (t : Rows) (c : Choices) (arrivals : List Arrival) (frames : List Frame) (lines : List Due) →
    IsAdmittedRun t arrivals →
    AreLinesOf t c arrivals (left_in (told t arrivals)) frames lines →
    NothingIsFound lines

abbrev pub ReplaysConformExactly : Type 0
ReplaysConformExactly =
    (t : Rows) (c : Choices) (arrivals : List Arrival) (frames : List Frame) (lines : List Due) →
    IsAdmittedRun t arrivals →
    IsExactBy c.by →
    AreLinesOf t c arrivals (left_in (told t arrivals)) frames lines →
    lines ≡ []

-- ---- what is answered

-- stamps and clocks are exact, the switch was reset before, and nothing is passed over: neither
-- what came or left before or behind some time, nor a link, nor a port; idle streams don't matter
pub record IsPlain (t : Rows) (c : Choices) : Type 0 where
  pub exact : IsExactBy c.by
  pub until : c.until ≡ None
  pub left_out : c.left_out ≡ []
  pub sight : c.sight ≡ of_tables t all_taps
  pub exercised : c.exercised ≡ false

-- then it conforms, if a frame left; whatever is asked, it never deviates
pub record IsAnswered (t : Rows) (c : Choices) (left : List Leaving) (frames : List Frame)
    (lines : List Due) : Type 0 where
  pub plain : IsPlain t c → 0 < length left → answered (t, c) frames lines ≡ Conforms
  pub exact : IsExactBy c.by → SomeLeft (t, c) frames → IsExercised (t, c) frames lines →
      answered (t, c) frames lines ≡ Conforms
  pub never : (findings : ℕ) → answered (t, c) frames lines ≡ Deviates findings → ⊥

abbrev pub PromisedIsAnswered : Type 0
PromisedIsAnswered =
    (t : Rows) (c : Choices) (arrivals : List Arrival) (left : List Leaving) (frames : List Frame)
    (lines : List Due) →
    IsLawfulSwitch t →
    AreTimed arrivals →
    LeaveAsPromised t arrivals left →
    AreLinesOf t c arrivals left frames lines →
    IsAnswered t c left frames lines

abbrev pub ReplaysAreAnswered : Type 0
ReplaysAreAnswered =
    (t : Rows) (c : Choices) (arrivals : List Arrival) (frames : List Frame) (lines : List Due) →
    IsAdmittedRun t arrivals →
    AreLinesOf t c arrivals (left_in (told t arrivals)) frames lines →
    IsAnswered t c (left_in (told t arrivals)) frames lines

-- ---- there is such a recording

-- what came and what left, under any numbers, as two lists that are read at once
abbrev pub ListsAreRecorded : Type 0
ListsAreRecorded =
    (arrivals came : List Arrival) (left : List Leaving) (records : List Arrival) →
    AreTimed arrivals →
    AreSameArrivals arrivals came →
    LeaveInOrder left →
    AreRecordsOf left records →
    AreRecorded all_taps arrivals left (both_lists came records)

-- of any tables, admitted or not
abbrev pub ToldLeaveInOrder : Type 0
ToldLeaveInOrder = (t : Rows) (arrivals : List Arrival) → LeaveInOrder (left_in (told t arrivals))

-- ---- several switches

-- the frames that left the switch of a number, by the lines that tell its events
abbrev pub left_from_switch : List NamedRows → ℕ → List SwitchEvent → List Leaving
left_from_switch switches k events = left_in (told_by (tables_of switches k) (at_switch k events))

-- all events of an admitted cascade, and a switch of it
pub record IsSwitchOf (switches : List NamedRows) (events : List SwitchEvent) (k : ℕ) :
    Type 0 where
  pub all : AreAllEvents switches events
  pub cascade : Cascade
  pub stands : StandsFor (plan_of switches) cascade events
  pub within : k < length switches

-- each switch conforms, by its own tables: of all that came to it, of the list and by cables, and
-- of all that left it
abbrev pub SwitchesConform : Type 0
SwitchesConform =
    (switches : List NamedRows) (events : List SwitchEvent) (k : ℕ) (c : Choices)
    (frames : List Frame) (lines : List Due) →
    IsSwitchOf switches events k →
    AreLinesOf (tables_of switches k) c (came_to k events) (left_from_switch switches k events)
    frames lines →
    NothingIsFound lines

abbrev pub SwitchesConformExactly : Type 0
SwitchesConformExactly =
    (switches : List NamedRows) (events : List SwitchEvent) (k : ℕ) (c : Choices)
    (frames : List Frame) (lines : List Due) →
    IsSwitchOf switches events k →
    IsExactBy c.by →
    AreLinesOf (tables_of switches k) c (came_to k events) (left_from_switch switches k events)
    frames lines →
    lines ≡ []

abbrev pub SwitchesAreAnswered : Type 0
SwitchesAreAnswered =
    (switches : List NamedRows) (events : List SwitchEvent) (k : ℕ) (c : Choices)
    (frames : List Frame) (lines : List Due) →
    IsSwitchOf switches events k →
    AreLinesOf (tables_of switches k) c (came_to k events) (left_from_switch switches k events)
    frames lines →
    IsAnswered (tables_of switches k) c (left_from_switch switches k events) frames lines
