use Rattle.afdx_end_systems.proofs.SystemsLemmas.{HasBuilt}
use Rattle.afdx_end_systems.proofs.systems.Systems.new.Given as goal

abbrev pub invariant-loop-port : goal.invariant-loop-port
invariant-loop-port l = HasBuilt l.tables l.port l.at_ports.items
