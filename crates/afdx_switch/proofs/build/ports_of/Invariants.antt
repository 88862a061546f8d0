use Rattle.std.proofs.Common.{◌≡◌, ◌+◌}
use Rattle.std.specs.Prelude.{Some, slice_get}
use Rattle.afdx_config.specs.Rows.{LinkRow}
use Rattle.afdx_switch.specs.Tables.{goes_to}
use Rattle.afdx_switch.proofs.PlaceLemmas.{GatheredPlaces}
use Rattle.afdx_switch.proofs.build.ports_of.Given as goal

abbrev pub invariant-loop-place : goal.invariant-loop-place
invariant-loop-place l =
    GatheredPlaces (λ i b. (r : LinkRow) → slice_get l.tables.links l.link ≡ Some r
    → b ≡ goes_to l.tables r (i + 1)) l.place l.places.items
