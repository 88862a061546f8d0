use Rattle.std.proofs.Common.{◌≡◌, length}
use Rattle.afdx_switch.specs.Shares.{AreShares}
use Rattle.afdx_switch.proofs.switch_state.share_out.Given as goal

abbrev pub invariant-loop : goal.invariant-loop
invariant-loop l = record {
  count : length l.shares.items ≡ l.counter;
  each : AreShares l.frame l.shares.items;
}
