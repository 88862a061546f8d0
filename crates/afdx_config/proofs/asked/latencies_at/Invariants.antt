use Rattle.std.proofs.Common.{◌≡◌, map, take}
use Rattle.afdx_config.specs.Asked.{latency_of}
use Rattle.afdx_config.specs.Trees.{trees}
use Rattle.afdx_config.proofs.asked.latencies_at.Given as goal

abbrev pub invariant-loop-link : goal.invariant-loop-link
invariant-loop-link l = l.asked.items ≡ map latency_of (trees (take l.link-index l.link-items))
