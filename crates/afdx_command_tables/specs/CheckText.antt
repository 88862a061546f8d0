-- What the command `check` writes of some tables: the bounds of each output port that has a system,
-- with the margins of the links that go there if they are asked for, and the answer; and then, of
-- tables that are admitted, what each link leaves the copies of its frames, if that is asked for.
use Rattle.std.specs.Prelude.{ℕ, zero, suc, ◌*◌, Bool, true, false, List, [], ◌∷◌, ◌++◌}
use Rattle.std.specs.Prelude.{Option, Some, None, is_some, if◌then◌else◌}
use Rattle.std.specs.List.{flat_map}
use Rattle.std.specs.Option.{option_map_or}
use Rattle.afdx_frame.specs.declared.link.Priority.{Priority}
use Rattle.afdx_frame.specs.declared.link.Priority.TheVariants.{High, Low}
use Rattle.afdx_frame.specs.Ports.{last_port}
use Rattle.afdx_config.specs.Rows.{LinkRow, Rows}
use Rattle.afdx_config.specs.Reading.{system_at_port}
use Rattle.afdx_config.specs.Admission.{links_to}
use Rattle.afdx_admit.specs.declared.fault.AdmitFault.{AdmitFault}
use Rattle.afdx_admit.specs.FaultText.{fault_text}
use Rattle.afdx_admit.specs.Apart.{link_apart}
use Rattle.afdx_admit.specs.Known.{name_of}
use Rattle.afdx_admit.specs.Lines.{high_bound_at, low_bound_at, buffer_need_at, first_false}
use Rattle.afdx_admit.specs.Lines.{false_lines, lines}
use Rattle.afdx_text.specs.OutLines.{bounds_line, margin_line, admitted_line, denied_line, apart_line}
use Rattle.afdx_command_tables.specs.declared.check_tables.CheckOptions.{CheckOptions}

-- the high and the low bound in ns, and the bytes of buffer that are needed, at a port of the
-- switch
abbrev pub port_line : Rows → ℕ → List ℕ
port_line t port =
    bounds_line port (high_bound_at t port) (low_bound_at t port) (buffer_need_at t port)

abbrev pub line_if_used : Rows → ℕ → List ℕ
line_if_used t port = if is_some (system_at_port t.systems port) then port_line t port else []

-- the bound of a class at a port of the switch, and the line of a link that goes there
abbrev pub class_bound_at : Rows → ℕ → Priority → Option ℕ
class_bound_at t port High = Some (high_bound_at t port)
class_bound_at t port Low = low_bound_at t port

abbrev pub link_line : Rows → ℕ → LinkRow → List ℕ
link_line t port l =
    margin_line port l.vl (class_bound_at t port l.priority) (1000 * l.latency_us)

-- the lines of the links that go to the system at a port of the switch, if there is one
unfoldable pub margin_lines : Rows → ℕ → List ℕ
margin_lines t port =
    option_map_or (λ place. flat_map (link_line t port) (links_to t.links place))
    (system_at_port t.systems port) []

abbrev pub margin_lines_if : Bool → Rows → ℕ → List ℕ
margin_lines_if margins t port = if margins then margin_lines t port else []

-- the lines of the first ports of the switch, as many as this, that have a system; with the margins
-- of its links behind each, or without
unfoldable pub used_port_lines : (margins : Bool) → Rows → ℕ → List ℕ
used_port_lines margins t zero = []
used_port_lines margins t (suc count) =
    used_port_lines margins t count
    ++ (line_if_used t (suc count) ++ margin_lines_if margins t (suc count))

-- what each link leaves the copies of its frames
abbrev pub apart_of : Rows → LinkRow → List ℕ
apart_of t l = apart_line l.vl (link_apart t l)

abbrev pub apart_lines : Rows → List ℕ
apart_lines t = flat_map (apart_of t) t.links

abbrev pub apart_lines_if : Bool → Rows → List ℕ
apart_lines_if margins t = if margins then apart_lines t else []

-- admitted, or the first line of admission that is false
abbrev pub admitted_lines : (margins : Bool) → Rows → List ℕ
admitted_lines margins t = admitted_line ++ apart_lines_if margins t

abbrev pub fault_line : Rows → AdmitFault → List ℕ
fault_line t fault = denied_line (fault_text (name_of t fault) fault)

abbrev pub answer_line : (margins : Bool) → Rows → Option AdmitFault → List ℕ
answer_line margins t None = admitted_lines margins t
answer_line margins t (Some fault) = fault_line t fault

-- a line for each of several faults, and admitted where there is none
abbrev pub fault_lines : Rows → List AdmitFault → List ℕ
fault_lines t faults = flat_map (fault_line t) faults

abbrev pub answer_lines : (margins : Bool) → Rows → List AdmitFault → List ℕ
answer_lines margins t [] = admitted_lines margins t
answer_lines margins t (fault ∷ faults) = fault_lines t (fault ∷ faults)

-- the first of the false lines, or all of them, with what is asked for besides
abbrev pub answer_of : (all margins : Bool) → Rows → List ℕ
answer_of false margins t = answer_line margins t (first_false (lines t))
answer_of true margins t = answer_lines margins t (false_lines (lines t))

abbrev pub answer : CheckOptions → Rows → List ℕ
answer options t = answer_of options.all options.margins t

abbrev pub check_text_of : CheckOptions → Rows → List ℕ
check_text_of options t = used_port_lines options.margins t last_port ++ answer options t
