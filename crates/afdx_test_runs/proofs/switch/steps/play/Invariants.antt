use Rattle.std.proofs.Common.{◌≤◌}
use Rattle.afdx_switch.specs.Switching.{last_time}
use Rattle.afdx_test_runs.proofs.switch.steps.play.Given as goal

abbrev pub invariant-loop-place : goal.invariant-loop-place
invariant-loop-place l = last_time l.switch ≤ l.now
