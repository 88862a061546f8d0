use Rattle.std.proofs.Common.{◌≡◌, ◌≤◌, ℕ, vec_len, slice_get, drop, length, map}
use Rattle.afdx_input_sources.specs.Claims.{entry_from}
use Rattle.afdx_input_sources.specs.Tables.{known}
use Rattle.afdx_input_sources.proofs.senders.put_all_entries.Given as goal

abbrev pub invariant-loop-place : goal.invariant-loop-place
invariant-loop-place l =
    (vec_len l.entries ≡ 65536) × (l.place ≤ length l.fn.switches)
    × ((number : ℕ) → known (slice_get l.entries.items number)
    ≡ entry_from l.place (map (λ s. s.rows) (drop l.place l.fn.switches)) number)

abbrev pub decreases-loop-place : goal.decreases-loop-place
decreases-loop-place l = l.place
