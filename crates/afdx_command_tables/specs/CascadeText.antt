-- What the command `check` writes of a cascade: of each switch its name and the lines of its ports,
-- then of each link and each system that it goes to the latency of the way there, and the answer;
-- and then, where they are admitted, what each link leaves its copies, if that is asked for.
use Rattle.std.specs.Prelude.{ℕ, zero, suc, ◌*◌, Bool, true, false, List, [], ◌∷◌, ◌++◌, length}
use Rattle.std.specs.Prelude.{Option, Some, None, slice_get, option_map, if◌then◌else◌}
use Rattle.std.specs.List.{flat_map}
use Rattle.std.specs.Option.{option_map_or}
use Rattle.afdx_frame.specs.Ports.{last_port}
use Rattle.afdx_frame.specs.Lines.{first_false, false_lines}
use Rattle.afdx_config.specs.Rows.{LinkRow, Rows, is_to}
use Rattle.afdx_config.specs.Switches.{NamedRows, first_of, is_this}
use Rattle.afdx_admit.specs.Cascade.{RowAt, row_at, row_of, way_latency, cascade_lines}
use Rattle.afdx_admit.specs.Apart.{cascade_apart}
use Rattle.afdx_admit.specs.FaultText.{switch_fault_text}
use Rattle.afdx_admit.specs.Known.{name_at}
use Rattle.afdx_admit.specs.declared.cascade_fault.CascadeFault.{CascadeFault}
use Rattle.afdx_text.specs.OutLines.{admitted_line, denied_line, switch_line, end_to_end_line}
use Rattle.afdx_text.specs.OutLines.{apart_line}
use Rattle.afdx_command_tables.specs.CheckText.{used_port_lines}
use Rattle.afdx_command_tables.specs.declared.check_tables.CheckOptions.{CheckOptions}

-- the texts of the first places, as many as this, one behind the other
unfoldable pub texts_below : (ℕ → List ℕ) → ℕ → List ℕ
texts_below text zero = []
texts_below text (suc count) = texts_below text count ++ text count

-- ---- the switches

abbrev pub lines_of_switch : Bool → NamedRows → List ℕ
lines_of_switch margins s = switch_line s.name ++ used_port_lines margins s.rows last_port

unfoldable pub switch_lines : Bool → List NamedRows → ℕ → List ℕ
switch_lines margins switches k =
    option_map_or (lines_of_switch margins) (slice_get switches k) []

-- ---- the ends of links

-- the latency of the way to a row, in ns
abbrev pub way_ns : List NamedRows → RowAt → Option ℕ
way_ns switches r = option_map (λ us. 1000 * us) (way_latency switches r)

abbrev pub name_of_system : Rows → ℕ → List ℕ
name_of_system t place = option_map_or (λ s. s.name) (slice_get t.systems place) []

-- the line of a link to the system at a place, where its row goes to it
abbrev pub end_line : Rows → LinkRow → Option ℕ → ℕ → List ℕ
end_line t l ns place =
    if is_to place l then end_to_end_line l.vl (name_of_system t place) ns else []

-- of a row, to each of the switch's systems in file order
unfoldable pub ends_of_row : Rows → LinkRow → Option ℕ → List ℕ
ends_of_row t l ns = texts_below (end_line t l ns) t.own

abbrev pub ends_of_row_at : List NamedRows → ℕ → Rows → LinkRow → List ℕ
ends_of_row_at switches k t l = ends_of_row t l (way_ns switches (row_at k l))

-- of a link at the switch of a place
unfoldable pub ends_at : List NamedRows → (vl : ℕ) → ℕ → List ℕ
ends_at switches vl k =
    option_map_or (λ s. option_map_or (ends_of_row_at switches k s.rows) (row_of s.rows vl) [])
    (slice_get switches k) []

-- at all switches
abbrev pub ends_of_link : List NamedRows → (vl : ℕ) → List ℕ
ends_of_link switches vl = texts_below (ends_at switches vl) (length switches)

-- where the link stands for the first time
abbrev pub ends_if_first : List NamedRows → ℕ → LinkRow → List ℕ
ends_if_first switches k l =
    if is_this (first_of switches l.vl) k then ends_of_link switches l.vl else []

unfoldable pub link_ends : List NamedRows → (k i : ℕ) → List ℕ
link_ends switches k i =
    option_map_or (λ s. option_map_or (ends_if_first switches k) (slice_get s.rows.links i) [])
    (slice_get switches k) []

unfoldable pub switch_ends : List NamedRows → ℕ → List ℕ
switch_ends switches k =
    option_map_or (λ s. texts_below (link_ends switches k) (length s.rows.links))
    (slice_get switches k) []

-- ---- what links leave the copies of their frames

-- where the link stands for the first time
abbrev pub apart_if_first : List NamedRows → ℕ → LinkRow → List ℕ
apart_if_first switches k l =
    if is_this (first_of switches l.vl) k
    then apart_line l.vl (cascade_apart switches l.vl)
    else []

unfoldable pub link_aparts : List NamedRows → (k i : ℕ) → List ℕ
link_aparts switches k i =
    option_map_or (λ s. option_map_or (apart_if_first switches k) (slice_get s.rows.links i) [])
    (slice_get switches k) []

unfoldable pub switch_aparts : List NamedRows → ℕ → List ℕ
switch_aparts switches k =
    option_map_or (λ s. texts_below (link_aparts switches k) (length s.rows.links))
    (slice_get switches k) []

abbrev pub aparts_if : Bool → List NamedRows → List ℕ
aparts_if margins switches =
    if margins then texts_below (switch_aparts switches) (length switches) else []

-- ---- the answer

abbrev pub admitted_cascade : (margins : Bool) → List NamedRows → List ℕ
admitted_cascade margins switches = admitted_line ++ aparts_if margins switches

abbrev pub fault_line_at : CascadeFault → NamedRows → List ℕ
fault_line_at fault s =
    denied_line (switch_fault_text s.name (name_at s.rows fault.fault) fault.fault)

abbrev pub cascade_fault_line : List NamedRows → CascadeFault → List ℕ
cascade_fault_line switches fault =
    option_map_or (fault_line_at fault) (slice_get switches fault.switch.0) []

-- admitted, or the first line that is false
abbrev pub cascade_answer_line : (margins : Bool) → List NamedRows → Option CascadeFault → List ℕ
cascade_answer_line margins switches None = admitted_cascade margins switches
cascade_answer_line margins switches (Some fault) = cascade_fault_line switches fault

-- a line for each of several faults, and admitted where there is none
abbrev pub cascade_fault_lines : List NamedRows → List CascadeFault → List ℕ
cascade_fault_lines switches faults = flat_map (cascade_fault_line switches) faults

abbrev pub cascade_answer_lines : (margins : Bool) → List NamedRows → List CascadeFault → List ℕ
cascade_answer_lines margins switches [] = admitted_cascade margins switches
cascade_answer_lines margins switches (fault ∷ faults) =
    cascade_fault_lines switches (fault ∷ faults)

-- the first of the false lines, or all of them, with what is asked for besides
abbrev pub cascade_answer_of : (all margins : Bool) → List NamedRows → List ℕ
cascade_answer_of false margins switches =
    cascade_answer_line margins switches (first_false (cascade_lines switches))
cascade_answer_of true margins switches =
    cascade_answer_lines margins switches (false_lines (cascade_lines switches))

abbrev pub cascade_answer : CheckOptions → List NamedRows → List ℕ
cascade_answer options switches = cascade_answer_of options.all options.margins switches

-- ---- the whole

abbrev pub cascade_text_of : CheckOptions → List NamedRows → List ℕ
cascade_text_of options switches =
    texts_below (switch_lines options.margins switches) (length switches)
    ++ (texts_below (switch_ends switches) (length switches) ++ cascade_answer options switches)
