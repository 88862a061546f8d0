use Rattle.std.proofs.Common.{◌≡◌, ◌≤◌, ℕ, Option, vec_len, slice_get, drop}
use Rattle.afdx_input_sources.specs.Claims.{entry_among, own_systems}
use Rattle.afdx_input_sources.specs.Tables.{known}
use Rattle.afdx_input_sources.specs.declared.places.TapPort.{TapPort}
use Rattle.afdx_input_sources.proofs.senders.put_entries.Given as goal

abbrev pub invariant-loop-place : goal.invariant-loop-place
invariant-loop-place l =
    (vec_len l.entries ≡ 65536) × (l.place ≤ l.fn.tables.own)
    × ((other : ℕ → Option TapPort)
    → ((number : ℕ) → known (slice_get l.initial.entries.items number) ≡ other number)
    → (number : ℕ) → known (slice_get l.entries.items number)
    ≡ entry_among l.switch (drop l.place (own_systems l.fn.tables)) number (other number))

abbrev pub decreases-loop-place : goal.decreases-loop-place
decreases-loop-place l = l.place
