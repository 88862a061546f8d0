-- What is true of the lines of admission.
use Rattle.std.specs.Prelude.{◌≡◌, ◌↔◌, ℕ, ◌-◌, ◌≤◌, Contains, List, None, Some, slice_get}
use Rattle.std.specs.Int.{div_ceil}
use Rattle.afdx_frame.specs.declared.link.Priority.TheVariants.{Low}
use Rattle.afdx_frame.specs.Regulation.{byte_units}
use Rattle.afdx_config.specs.Rows.{SystemRow, Rows}
use Rattle.afdx_config.specs.Lawful.{IsLawfulSwitch}
use Rattle.afdx_frame.specs.Flows.{Flow, of_class, load, low_wait, high_load}
use Rattle.afdx_config.specs.Admission.{IsAdmitted}
use Rattle.afdx_admit.specs.Lines.{Line, first_false, false_lines, lines, loaded_output_to, low_bound_of}

-- no line is false exactly where the tables are admitted
abbrev pub LinesAreAdmission : Type 0
LinesAreAdmission = (t : Rows) → IsLawfulSwitch t → (first_false (lines t) ≡ None) ↔ IsAdmitted t

-- where a low flow goes through a port that isn't overloaded, the low bound is a number: the one
-- that its line answers
abbrev pub LowBoundIsANumber : Type 0
LowBoundIsANumber =
    (t : Rows) →
    IsLawfulSwitch t →
    (place : ℕ) (s : SystemRow) →
    slice_get t.systems place ≡ Some s →
    let o = loaded_output_to t place s in
    load o.byte_ns o.flows ≤ byte_units →
    (f : Flow) →
    Contains (of_class Low o.flows) f →
    low_bound_of o
    ≡ Some (div_ceil (low_wait o.byte_ns o.flows) (byte_units - high_load o.byte_ns o.flows))

-- the first false line is the first of all that are false
abbrev pub FirstIsOfAll : Type 0
FirstIsOfAll = (ls : List Line) → first_false ls ≡ slice_get (false_lines ls) 0
