use Rattle.std.proofs.Common.{◌≡◌, true, drop, length, []}
use Rattle.std.specs.List.{AllByRecursion}
use Rattle.afdx_config.specs.Lawful.{IsLawfulSwitch}
use Rattle.afdx_config.specs.Reading.{is_name}
use Rattle.afdx_config.specs.Trees.{trees}
use Rattle.afdx_config.specs.Switches.{each_switch}
use Rattle.afdx_config.proofs.read_switch.switches_of.Given as goal

abbrev pub invariant-loop-table : goal.invariant-loop-table
invariant-loop-table l = record {
  so_far : each_switch l.kept l.switches.items (trees (drop l.table-index l.tables))
      ≡ each_switch l.kept [] (trees l.tables);
  count : length l.switches.items ≡ l.table-index;
  names : AllByRecursion (λ s. is_name s.name ≡ true) l.switches.items;
  each : AllByRecursion (λ s. IsLawfulSwitch s.rows) l.switches.items;
}
