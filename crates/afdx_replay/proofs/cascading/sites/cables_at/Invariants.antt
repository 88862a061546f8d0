use Rattle.std.specs.Prelude.{◌≡◌, map}
use Rattle.std.specs.List.{range_with_len}
use Rattle.afdx_replay.specs.cascading.Sited.{has_cable}
use Rattle.afdx_replay.proofs.cascading.sites.cables_at.Given as goal

abbrev pub invariant-loop-port : goal.invariant-loop-port
invariant-loop-port l =
    l.cables.items ≡ map (has_cable l.switches l.switch.0) (range_with_len 0 l.port)
