-- What arrives at the switches, and which of it is a link's own. A list of arrivals has the newest
-- first.
use Rattle.std.specs.Prelude.{ℕ, Bool, false, ◌&&◌, ◌==◌, List, filter}
use Rattle.std.specs.Option.{option_map_or}
use Rattle.afdx_frame.specs.Layout.{link_named_by}
use Rattle.afdx_frame.specs.declared.link.Side.{Side}
pub use Rattle.afdx_frame.specs.Sides.{is_side}

-- a frame that arrives: the caller's tag, the time in nanoseconds, the switch, its input port, and
-- all bytes
pub record Arrival : Type 0 where
  pub tag : ℕ
  pub time : ℕ
  pub side : Side
  pub port : ℕ
  pub bytes : List ℕ

-- in this order
abbrev pub arrival_with : ℕ → ℕ → Side → ℕ → List ℕ → Arrival
arrival_with tag time side port bytes =
    record { tag = tag; time = time; side = side; port = port; bytes = bytes }

-- the destination address of the bytes names the link
unfoldable pub names : ℕ → List ℕ → Bool
names vl bytes = option_map_or (λ named. named.0 == vl) (link_named_by bytes) false

-- a link's own arrivals on a side
abbrev pub own : ℕ → Side → List Arrival → List Arrival
own vl side arrivals = filter (λ x. is_side side x.side && names vl x.bytes) arrivals
