-- Where the frames of each interface came in, or left, where that is said.
use Rattle.std.specs.Prelude.{List, map, string_bytes}
use Rattle.std.specs.Prelude.{ℕ, ◌-◌, Bool, true, false, ◌==◌, count_by, Option, Some, None, is_some, slice_get, if◌then◌else◌}
use Rattle.std.specs.List.{find, range_with_len}
use Rattle.afdx_frame.specs.declared.link.Side.{Side}
pub use Rattle.afdx_input_files.specs.Limits.{most_interfaces}
use Rattle.afdx_input_lines.specs.declared.role.Role.{Role}
use Rattle.afdx_input_lines.specs.declared.role.Role.TheVariants as role
use Rattle.afdx_input_sources.specs.Tables.{known}
use Rattle.afdx_input_sources.specs.declared.places.TapPoint.{TapPoint}
use Rattle.afdx_input_sources.specs.declared.places.TapPoint.TheVariants.{LeftOut, OnSide, AtPort}
use Rattle.afdx_input_sources.specs.declared.places.TapPoint.TheVariants.{AtNamed, AtSwitch, Left}
use Rattle.afdx_input_sources.specs.declared.places.TapPort.{TapPort}
use Rattle.afdx_input_sources.specs.declared.places.Interfaces.{Interfaces}

-- the place of an interface
unfoldable pub place_of : Interfaces → ℕ → Option TapPoint
place_of interfaces interface = known (slice_get interfaces.places.items interface)

-- the names that places mean by their numbers
abbrev pub names_of : Interfaces → List (List ℕ)
names_of interfaces = map string_bytes interfaces.names.items

-- these places, but of one interface this one
abbrev pub places_but : (ℕ → Option TapPoint) → ℕ → TapPoint → ℕ → Option TapPoint
places_but places interface place k = if k == interface then Some place else places k

-- how many interfaces have a place that aren't among the first `count`: a recording of so many
-- doesn't have them
unfoldable pub unused_behind : (count : ℕ) → (ℕ → Option TapPoint) → ℕ
unused_behind count places =
    count_by (λ k. is_some (places k)) (range_with_len count (most_interfaces - count))

-- the least of them
unfoldable pub first_unused_behind : (count : ℕ) → (ℕ → Option TapPoint) → Option ℕ
first_unused_behind count places =
    find (λ k. is_some (places k)) (range_with_len count (most_interfaces - count))

-- its frames are left out; so are those of an interface of which nothing is said, if that is
abbrev pub is_left_out : (leaves_unsaid : Bool) → Option TapPoint → Bool
is_left_out leaves_unsaid (Some LeftOut) = true
is_left_out leaves_unsaid None = leaves_unsaid
is_left_out leaves_unsaid _ = false

-- what its frames did
abbrev pub role_of : Option TapPoint → Role
role_of (Some (Left side port)) = role.Left
role_of _ = role.Came

-- the side that it says
abbrev pub side_of : Option TapPoint → Option Side
side_of (Some (OnSide side)) = Some side
side_of (Some (AtPort side port)) = Some side
side_of (Some (AtNamed side name port)) = Some side
side_of (Some (AtSwitch side switch port)) = Some side
side_of (Some (Left side port)) = Some side
side_of _ = None

-- a port of a switch
abbrev pub entry_at : (switch port : ℕ) → TapPort
entry_at switch port = record { switch = switch; port = port }

-- the switch and the port, where it says both
abbrev pub entry_said : Option TapPoint → Option TapPort
entry_said (Some (AtPort side port)) = Some (entry_at 0 port)
entry_said (Some (AtSwitch side switch (Some port))) = Some (entry_at switch port)
entry_said (Some (Left side port)) = Some (entry_at 0 port)
entry_said _ = None

-- a frame may have come in there: where it says a switch, at that one, if that is known
abbrev pub allows : Option TapPoint → TapPort → Bool
allows (Some (AtNamed side name port)) entry = false
allows (Some (AtSwitch side switch port)) entry = entry.switch == switch
allows _ entry = true
