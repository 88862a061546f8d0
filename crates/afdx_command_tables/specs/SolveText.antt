-- What the command `solve` tells: each link that needs more at an output port than it asked for.
use Rattle.std.specs.Prelude.{ℕ, zero, suc, ◌*◌, nat_le, List, [], ◌∷◌, ◌++◌, codes, decimal}
use Rattle.std.specs.Prelude.{length, slice_get, Option, Some, None, option_and_then, if◌then◌else◌}
use Rattle.std.specs.Option.{option_map_or, unwrap_or}
use Rattle.afdx_frame.specs.Ports.{last_port}
use Rattle.afdx_config.specs.Reading.{system_at_port}
use Rattle.afdx_config.specs.Rows.{LinkRow, Rows, is_to}
use Rattle.afdx_config.specs.Switches.{NamedRows}
use Rattle.afdx_solve.specs.declared.short.Short.{Short}
use Rattle.afdx_solve.specs.declared.short.ShortAt.{ShortAt}
use Rattle.afdx_command_tables.specs.CascadeText.{texts_below}
use Rattle.afdx_command_tables.specs.CheckText.{class_bound_at}
use Rattle.afdx_command_tables.specs.Commands.{counted}

-- ---- at an output port; `switch` is the name of its switch, empty where there is one

abbrev pub port_text : (switch : List ℕ) → ℕ → List ℕ
port_text [] port = decimal port
port_text (c ∷ name) port = c ∷ name ++ codes " " ++ decimal port

-- the line of a link that needs so many ns there, and asked for so many us
abbrev pub told_need : (switch : List ℕ) → (port vl bound asked : ℕ) → List ℕ
told_need switch port vl bound asked =
    counted (codes "vl ") vl (codes " at " ++ port_text switch port
    ++ counted (codes ": ") bound (counted (codes " ns needed, ") asked (codes " us asked\n")))

-- it stands where the bound is more than what was asked for
abbrev pub need_over : (switch : List ℕ) → (port vl bound asked : ℕ) → List ℕ
need_over switch port vl bound asked =
    if nat_le bound (1000 * asked) then [] else told_need switch port vl bound asked

abbrev pub need_line : (switch : List ℕ) → (port vl : ℕ) → (bound asked : Option ℕ) → List ℕ
need_line switch port vl (Some bound) (Some asked) = need_over switch port vl bound asked
need_line switch port vl (Some bound) None = []
need_line switch port vl None asked = []

-- at the output port to the system or neighbour at a place, of a link that may go there
abbrev pub need_at : (switch : List ℕ) → Rows → (port place : ℕ) → LinkRow → Option ℕ → List ℕ
need_at switch t port place l asked =
    if is_to place l
    then need_line switch port l.vl (class_bound_at t port l.priority) asked
    else []

-- ---- of a switch's links, in file order

-- what the link at a place asked for
abbrev pub asked_by : List (Option ℕ) → ℕ → Option ℕ
asked_by asked i = option_and_then (λ latency. latency) (slice_get asked i)

-- the lines of the first links, as many as this
unfoldable pub needs_of_first : (switch : List ℕ) → Rows → List (Option ℕ) →
    (port place count : ℕ) → List ℕ
needs_of_first switch t asked port place zero = []
needs_of_first switch t asked port place (suc count) =
    needs_of_first switch t asked port place count
    ++ option_map_or (λ l. need_at switch t port place l (asked_by asked count))
    (slice_get t.links count) []

-- at a port of the switch, if it has a system or a neighbour
unfoldable pub needs_at : (switch : List ℕ) → Rows → List (Option ℕ) → ℕ → List ℕ
needs_at switch t asked port =
    option_map_or (λ place. needs_of_first switch t asked port place (length t.links))
    (system_at_port t.systems port) []

-- at the first ports of the switch, as many as this
unfoldable pub needs_at_first : (switch : List ℕ) → Rows → List (Option ℕ) → ℕ → List ℕ
needs_at_first switch t asked zero = []
needs_at_first switch t asked (suc count) =
    needs_at_first switch t asked count ++ needs_at switch t asked (suc count)

-- each link and port where more is needed than the link asked for, by port, then by link
abbrev pub needs_text : (switch : List ℕ) → Rows → List (Option ℕ) → List ℕ
needs_text switch t asked = needs_at_first switch t asked last_port

-- ---- a link that leaves the copies of its frames less than is asked for

abbrev pub short_line : Short → List ℕ
short_line short =
    codes "no apart " ++ (decimal short.vl.0 ++ (codes " " ++ (decimal short.ns ++ codes "\n")))

-- of several switches with the name of the one where it does
abbrev pub short_line_of : Short → NamedRows → List ℕ
short_line_of short s =
    codes "no apart " ++ (s.name ++ (codes " " ++ (decimal short.vl.0
    ++ (codes " " ++ (decimal short.ns ++ codes "\n")))))

abbrev pub short_line_at : List NamedRows → ShortAt → List ℕ
short_line_at switches found =
    option_map_or (short_line_of found.short) (slice_get switches found.switch.0) []

-- ---- of several switches, in file order

-- what the links of the switch at a place asked for
abbrev pub asked_at : List (List (Option ℕ)) → ℕ → List (Option ℕ)
asked_at asked k = unwrap_or (slice_get asked k) []

unfoldable pub needs_of_switch : List NamedRows → List (List (Option ℕ)) → ℕ → List ℕ
needs_of_switch switches asked k =
    option_map_or (λ s. needs_text s.name s.rows (asked_at asked k)) (slice_get switches k) []

abbrev pub cascade_needs_text : List NamedRows → List (List (Option ℕ)) → List ℕ
cascade_needs_text switches asked =
    texts_below (needs_of_switch switches asked) (length switches)
