use Rattle.std.proofs.Common.{◌≡◌, ◌+◌, drop, take, length}
use Rattle.afdx_config.specs.Lawful.{AreEnds}
use Rattle.afdx_config.specs.Trees.{trees}
use Rattle.afdx_config.specs.Reading.{each}
use Rattle.afdx_config.specs.Switches.{neighbour_at}
use Rattle.afdx_config.proofs.read_neighbours.neighbours_of.Given as goal

abbrev pub invariant-loop-table : goal.invariant-loop-table
invariant-loop-table l = record {
  so_far : each (neighbour_at l.profile l.own) l.ends (trees (drop l.table-index l.tables))
      ≡ each (neighbour_at l.profile l.own) l.fn.systems (trees l.tables);
  count : length l.ends ≡ l.own + l.table-index;
  systems : take l.own l.ends ≡ l.fn.systems;
  lawful : AreEnds l.profile l.own l.ends;
}
