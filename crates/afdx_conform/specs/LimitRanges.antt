-- How great the numbers of a stream's limits can be.
use Rattle.std.specs.Prelude.{ℕ, ◌+◌, ◌*◌, ◌≤◌}
use Rattle.afdx_frame.specs.Regulation.{slowest_byte}
use Rattle.afdx_conform.specs.Leeways.{greatest_slack, greatest_between, greatest_drift}

-- so great are a stream's latency with its inner delay, the reach of two stamps and the time of a
-- byte on its line, in ns, and its drift, in millionths
pub record AreLimitsInRange (latency reach byte_ns drift : ℕ) : Type 0 where
  pub takes : latency ≤ 10000000000
  pub reaches : reach ≤ 2 * greatest_slack + greatest_between
  pub byte : byte_ns ≤ slowest_byte
  pub drifts : drift ≤ greatest_drift

-- more bytes than any frame on a line has
abbrev pub most_bytes : ℕ
most_bytes = 65535
