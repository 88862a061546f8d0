-- Whose lines stand together, and in which order they come.
use Rattle.std.specs.Prelude.{ℕ, ◌<◌, ◌+◌, ◌*◌, Bool, true, false, ◌&&◌, nat_eq, Option, Some, None}
use Rattle.std.specs.Option.{ForSome}
use Rattle.afdx_frame.specs.declared.link.Side.{Side}
use Rattle.afdx_frame.specs.declared.link.Side.TheVariants.{A, B}
use Rattle.afdx_frame.specs.Sides.{is_side}
use Rattle.afdx_law_bounds.specs.Tables.{port_of}
use Rattle.afdx_config.specs.Rows.{Rows}
use Rattle.afdx_command_conform.specs.declared.key.Key.{Key}
use Rattle.afdx_command_conform.specs.declared.outlets.Outlet.{Outlet}

abbrev pub key_with : Side → ℕ → Option ℕ → Key
key_with side port link = record { side = side; port = port; link = link }

-- that of the stream at an outlet
abbrev pub key_of : Rows → Outlet → Key
key_of t outlet = key_with outlet.side (port_of t outlet.system.0) (Some outlet.link)

-- both are the same link, or none
abbrev pub is_link : Option ℕ → Option ℕ → Bool
is_link None None = true
is_link None (Some b) = false
is_link (Some a) None = false
is_link (Some a) (Some b) = nat_eq a b

unfoldable pub is_key : Key → Key → Bool
is_key a b = is_side a.side b.side && nat_eq a.port b.port && is_link a.link b.link

-- side A before side B
abbrev pub side_rank : Side → ℕ
side_rank A = 0
side_rank B = 1

-- what is of no stream before what is of a link, by its place
abbrev pub link_rank : Option ℕ → ℕ
link_rank None = 0
link_rank (Some link) = link + 1

-- by side, then by port, then by link
abbrev pub key_rank : Key → ℕ
key_rank key =
    (side_rank key.side * 256 + key.port) * 0x100000000 + link_rank key.link

-- where what is kept of it stands
abbrev pub place_of : ℕ → ℕ → Option ℕ → ℕ
place_of side port None = side * 256 + port
place_of side port (Some link) = 512 + link * 64 + side * 32 + port

abbrev pub key_place : Key → ℕ
key_place key = place_of (side_rank key.side) key.port key.link

-- its numbers are those that the code can hold
pub record IsKey (key : Key) : Type 0 where
  pub port : key.port < 0x100
  pub link : ForSome key.link (λ link. link < 0x10000)
