use Rattle.std.proofs.Common.{◌≡◌, take}
use Rattle.afdx_comport.specs.Ports.{ports_at_first, PlacesAreOf, AreFound}
use Rattle.afdx_comport.proofs.com_ports.ComPorts.new.Given as goal

abbrev pub invariant-loop-index : goal.invariant-loop-index
invariant-loop-index l = record {
  so_far : l.ports.items ≡ ports_at_first l.system.0 (take l.index l.tables.ports);
  places : PlacesAreOf l.places l.ports.items;
  found : AreFound l.ports.items;
}
