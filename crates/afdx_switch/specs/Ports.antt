-- A set of ports.
use Rattle.std.specs.Prelude.{ℕ, Bool, ◌==◌}
use Rattle.std.specs.Int.{bit_at}
use Rattle.afdx_switch.specs.declared.ports.PortSet.{PortSet}

-- the port is one of the set
unfoldable pub holds : PortSet → ℕ → Bool
holds set p = bit_at set.ports p == 1
