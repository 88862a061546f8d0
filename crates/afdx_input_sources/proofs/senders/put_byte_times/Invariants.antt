use Rattle.std.proofs.Common.{◌≡◌, ◌≤◌, ℕ, vec_len, slice_get, drop}
use Rattle.afdx_input_sources.specs.Claims.{byte_ns_at, own_systems}
use Rattle.afdx_input_sources.specs.Tables.{known}
use Rattle.afdx_input_sources.proofs.senders.put_byte_times.Given as goal

abbrev pub invariant-loop-place : goal.invariant-loop-place
invariant-loop-place l = record {
  room : vec_len l.byte_ns ≡ 256;
  within : l.place ≤ l.fn.tables.own;
  times : (port : ℕ) →
      known (slice_get l.byte_ns.items port) ≡ byte_ns_at (drop l.place (own_systems l.fn.tables)) port;
}

abbrev pub decreases-loop-place : goal.decreases-loop-place
decreases-loop-place l = l.place
