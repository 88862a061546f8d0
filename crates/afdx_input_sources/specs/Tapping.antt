-- At which ports of the switches frames were recorded: input ports, of what came in, and output
-- ports, of what left.
use Rattle.std.specs.Prelude.{ℕ, Bool, true, false, ◌&&◌, ◌||◌, ◌==◌, slice_index_or, zero, suc}
use Rattle.std.specs.Prelude.{Option, Some, None}
use Rattle.afdx_frame.specs.BySide.{on}
use Rattle.afdx_frame.specs.declared.link.Side.{Side}
use Rattle.afdx_frame.specs.declared.link.Side.TheVariants.{A, B}
use Rattle.afdx_input_lines.specs.declared.role.Role.{Role}
use Rattle.afdx_input_lines.specs.declared.role.Role.TheVariants as role
use Rattle.afdx_input_sources.specs.Places.{most_interfaces}
use Rattle.afdx_input_sources.specs.declared.places.TapPoint.{TapPoint}
use Rattle.afdx_input_sources.specs.declared.places.TapPoint.TheVariants.{OnSide, AtPort, Left}
use Rattle.afdx_input_sources.specs.declared.taps.TappedPorts.{TappedPorts}
use Rattle.afdx_input_sources.specs.declared.taps.Taps as code

-- whether a port is tapped: of what came in or left, on a side, by its number
abbrev pub Taps : Type 0
Taps = Role → Side → ℕ → Bool

-- all are
abbrev pub all_taps : Taps
all_taps role side port = true

abbrev pub no_taps : Taps
no_taps role side port = false

-- those of either
abbrev pub taps_of_both : Taps → Taps → Taps
taps_of_both these those role side port = these role side port || those role side port

-- ---- by what options say

abbrev pub is_same_side : Side → Side → Bool
is_same_side A A = true
is_same_side B B = true
is_same_side _ _ = false

-- an interface with this place taps all input ports of a side, one of them, or one output port; of
-- several switches it taps none of one
abbrev pub taps_at : TapPoint → Taps
taps_at (OnSide side) role.Came at port = is_same_side side at
taps_at (AtPort side entry) role.Came at port = is_same_side side at && port == entry
taps_at (Left side exit) role.Left at port = is_same_side side at && port == exit
taps_at _ role at port = false

abbrev pub taps_by : Option TapPoint → Taps
taps_by (Some place) = taps_at place
taps_by None = no_taps

-- the first n interfaces do
unfoldable pub taps_below : (places : ℕ → Option TapPoint) → ℕ → Taps
taps_below places zero role side port = false
taps_below places (suc n) role side port =
    taps_below places n role side port || taps_by (places n) role side port

-- all of them
abbrev pub taps_of : (places : ℕ → Option TapPoint) → Taps
taps_of places = taps_below places most_interfaces

-- ---- as the program holds them

abbrev pub has_port : TappedPorts → ℕ → Bool
has_port tapped port = tapped.are_all || slice_index_or tapped.ports port false

abbrev pub taps_in : code.Taps → Taps
taps_in taps role.Came side port = has_port (on side taps.came) port
taps_in taps role.Left side port = has_port (on side taps.left) port
