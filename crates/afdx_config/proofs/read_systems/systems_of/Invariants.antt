use Rattle.std.proofs.Common.{◌≡◌, drop, length, []}
use Rattle.afdx_config.specs.Lawful.{AreSystems}
use Rattle.afdx_config.specs.Trees.{trees}
use Rattle.afdx_config.specs.Reading.{each, system_at}
use Rattle.afdx_config.proofs.read_systems.systems_of.Given as goal

abbrev pub invariant-loop-table : goal.invariant-loop-table
invariant-loop-table l = record {
  so_far : each (system_at l.profile) l.systems (trees (drop l.table-index l.tables))
      ≡ each (system_at l.profile) [] (trees l.tables);
  count : length l.systems ≡ l.table-index;
  lawful : AreSystems l.profile l.systems;
}
