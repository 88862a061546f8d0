-- What a port has to know of a frame.
use Rattle.std.specs.Prelude.{ℕ, ◌≤◌, Option, IfSome}
use Rattle.afdx_frame.specs.Lengths.{least_frame, greatest_frame}
use Rattle.afdx_port.specs.Times.{greatest_wait}

-- its length in bytes, and how many nanoseconds it may wait for its turn, if there is a limit
pub record Facts : Type 0 where
  pub bytes : ℕ
  pub longest_wait : Option ℕ

-- a frame has 64 to 1518 bytes (IEEE 802.3, 4.4.2), and waits for at most 100 ms
pub record AreLawful (f : Facts) : Type 0 where
  pub least : least_frame ≤ f.bytes
  pub most : f.bytes ≤ greatest_frame
  pub wait : IfSome f.longest_wait (λ wait. wait ≤ greatest_wait)
