use Rattle.afdx_end_systems.proofs.SystemsLemmas.{built, built_more}
use Rattle.afdx_end_systems.proofs.systems.Systems.new.Goals as goal

pub returns : goal.returns
returns c = record {
  stands = built c.args.tables.now c.loop-port.at_ports c.loop-port.port
      c.loop-port-test.false c.loop-port.invariant;
}

pub loop-port-preserved : goal.loop-port-preserved
loop-port-preserved c = rw c.in_ok-push.ensures.items
    (built_more c.args.tables.now c.loop-port.port c.loop-port.at_ports.items c.in_ok-system_at.field-0
    c.loop-port.invariant c.system_at.ensures.lawful c.in_ok-system_at.ensures.built)
