use Rattle.std.specs.Prelude.{◌≡◌, map}
use Rattle.std.specs.List.{range_with_len}
use Rattle.afdx_replay.specs.cascading.Sited.{site_of}
use Rattle.afdx_replay.proofs.cascading.sites.sites_of.Given as goal

abbrev pub invariant-loop-place : goal.invariant-loop-place
invariant-loop-place l = l.sites.items ≡ map (site_of l.switches) (range_with_len 0 l.place)
