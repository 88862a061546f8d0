use Rattle.afdx_switch.specs.Ports.{holds}
use Rattle.afdx_switch.proofs.SetLemmas.{with_port-here, with_port-others, with_port-of_ports}
use Rattle.afdx_switch.proofs.ports.PortSet.add.Goals as goal

pub invariant_of-self : goal.invariant_of-self
invariant_of-self c = record {
  in_range = with_port-of_ports c.args.self.now.ports c.args.port c.requires.first_port c.requires.last
      c.args.self.now.in_range;
}

pub returns-clause-added : goal.returns-clause-added
unfolding holds
returns-clause-added c =
    with_port-here c.args.self.now.ports c.args.port c.requires.first_port c.requires.last

pub returns-clause-others : goal.returns-clause-others
unfolding holds
returns-clause-others c =
    with_port-others c.args.self.now.ports c.args.port c.requires.first_port c.requires.last
