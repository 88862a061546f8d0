-- The bounds of an output port.
use Rattle.std.specs.Prelude.{◌≡◌, ℕ, slice_get, Some}
use Rattle.afdx_config.specs.Rows.{SystemRow, Rows}
use Rattle.afdx_admit.specs.Lines.{high_bound_at, low_bound_at, buffer_need_at, loaded_output_to}
use Rattle.afdx_admit.specs.Lines.{high_bound_of, low_bound_of, buffer_need_of}
use Rattle.afdx_admit.specs.declared.bounds.PortBounds.{PortBounds}

-- they are those of this port of the switch
pub record IsBounds (t : Rows) (port : ℕ) (b : PortBounds) : Type 0 where
  pub high : b.high ≡ high_bound_at t port
  pub low : b.low ≡ low_bound_at t port
  pub buffer : b.buffer ≡ buffer_need_at t port

-- they are those of the output port to the system at a place
pub record AreBoundsTo (t : Rows) (place : ℕ) (b : PortBounds) : Type 0 where
  pub row : SystemRow
  pub stands : slice_get t.systems place ≡ Some row
  pub high : b.high ≡ high_bound_of (loaded_output_to t place row)
  pub low : b.low ≡ low_bound_of (loaded_output_to t place row)
  pub buffer : b.buffer ≡ buffer_need_of (loaded_output_to t place row)
