use Rattle.std.proofs.Common.{◌≡◌, ◌≤◌, Some, take}
use Rattle.std.specs.Prelude.{slice_get}
use Rattle.afdx_config.specs.Rows.{LinkRow}
use Rattle.afdx_command_conform.specs.Sight.{sight_in}
use Rattle.afdx_command_conform.specs.Tapped.{unseen_to}
use Rattle.afdx_command_conform.proofs.tapped.unseen_to.Given as goal

abbrev pub invariant-loop-rank : goal.invariant-loop-rank
invariant-loop-rank l = record {
  count : (row : LinkRow) → slice_get l.tables.links l.link ≡ Some row
      → l.count ≡ unseen_to l.tables (sight_in l.tables l.taps) l.side row (take l.rank row.to);
  few : l.count ≤ l.rank;
}
