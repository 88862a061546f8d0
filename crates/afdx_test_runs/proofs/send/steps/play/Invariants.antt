use Rattle.std.proofs.Common.{◌≤◌}
use Rattle.afdx_send.specs.Sender.{last_time}
use Rattle.afdx_test_runs.proofs.send.steps.play.Given as goal

abbrev pub invariant-loop-place : goal.invariant-loop-place
invariant-loop-place l = last_time l.sender ≤ l.now
