use Rattle.std.proofs.Common.{◌≤◌, ◌*◌}
use Rattle.afdx_port.specs.Held.{last_time}
use Rattle.afdx_port_bench.proofs.count_pairs.Given as goal

abbrev pub invariant-loop-pair : goal.invariant-loop-pair
invariant-loop-pair l = record { clock : last_time l.port ≤ l.pair * 6720; few : l.left ≤ l.pair }
