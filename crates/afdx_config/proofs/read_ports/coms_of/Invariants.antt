use Rattle.std.proofs.Common.{◌≡◌, drop, take, length, []}
use Rattle.afdx_config.specs.Rows.{port_rows}
use Rattle.afdx_config.specs.Lawful.{ArePorts, AreOfSystems}
use Rattle.afdx_config.specs.Trees.{trees}
use Rattle.afdx_config.specs.Reading.{each, port_at}
use Rattle.afdx_config.proofs.read_ports.coms_of.Given as goal

abbrev pub invariant-loop-table : goal.invariant-loop-table
invariant-loop-table l = record {
  so_far : each (port_at (take l.own l.ends) l.links) (port_rows l.coms.items)
      (trees (drop l.table-index l.tables)) ≡ each (port_at (take l.own l.ends) l.links) [] (trees l.tables);
  count : length l.coms.items ≡ l.table-index;
  lawful : ArePorts (length l.ends) l.links (port_rows l.coms.items);
  own : AreOfSystems l.own (port_rows l.coms.items);
}
