-- How the port that is served first is found.
use Rattle.std.specs.Prelude.{◌≡◌, ℕ, List, length, Some, slice_get}
use Rattle.afdx_frame.specs.Ports.{last_port}
use Rattle.afdx_port.specs.declared.port_state.PortState.{PortState}
use Rattle.afdx_port.specs.declared.serving.Serving.{Serving}
use Rattle.afdx_port.specs.Facts.{Facts}
use Rattle.afdx_port.specs.Held.{due_of}
use Rattle.afdx_port.specs.Keys.{key_of}
use Rattle.afdx_port.specs.Ports.{order_at, AreLimited}

module _ {X : Type 0} where
  -- the keys are those of these ports
  pub record IsServing (facts : X → Facts) (ports : List (PortState X)) (s : Serving) : Type 0 where
    pub port_count : length ports ≡ last_port
    pub keys : (place : ℕ) (p : PortState X) →
        slice_get ports place ≡ Some p →
        slice_get s.keys place ≡ Some (key_of (order_at (due_of facts p)) place)
    pub limit : AreLimited facts ports (length ports)
