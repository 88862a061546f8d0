use Rattle.std.proofs.Common.{◌≡◌, ◌≤◌, ◌*◌, take}
use Rattle.afdx_command_conform.specs.Sight.{sight_in}
use Rattle.afdx_command_conform.specs.Tapped.{unseen_among}
use Rattle.afdx_command_conform.proofs.tapped.unseen_on.Given as goal

abbrev pub invariant-loop-link : goal.invariant-loop-link
invariant-loop-link l = record {
  count : l.count ≡ unseen_among l.tables (sight_in l.tables l.taps) l.side (take l.link l.tables.links);
  few : l.count ≤ 24 * l.link;
}
