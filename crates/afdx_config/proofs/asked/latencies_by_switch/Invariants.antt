use Rattle.std.proofs.Common.{◌≡◌, map, take}
use Rattle.afdx_config.specs.Asked.{latencies_at, lists}
use Rattle.afdx_config.specs.Keys.{switch_at}
use Rattle.afdx_config.specs.Trees.{trees}
use Rattle.afdx_config.proofs.asked.latencies_by_switch.Given as goal

abbrev pub invariant-loop-switch : goal.invariant-loop-switch
invariant-loop-switch l =
    lists l.asked.items ≡ map (latencies_at (switch_at 4)) (trees (take l.switch-index l.switch-items))
