use Rattle.std.proofs.Common.{◌≤◌}
use Rattle.afdx_port.specs.Held.{last_time}
use Rattle.afdx_port_bench.proofs.count_filled.Given as goal

abbrev pub invariant-loop : goal.invariant-loop
invariant-loop l = last_time l.port ≤ 0

abbrev pub invariant-loop-2 : goal.invariant-loop-2
invariant-loop-2 l = last_time l.port ≤ 1000000000000
