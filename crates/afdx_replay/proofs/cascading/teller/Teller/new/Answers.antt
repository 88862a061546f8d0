use Rattle.std.proofs.Common.{refl}
use Rattle.afdx_replay.proofs.cascading.teller.Teller.new.Goals as goal

pub returns-clause-fits : goal.returns-clause-fits
returns-clause-fits g c = record {
  switches_are = refl;
  systems_are = c.in_ok-systems.ensures.count;
  few = c.new_systems.ensures.switches.count.1;
}
