use Rattle.afdx_switch.specs.Ports.{holds}
use Rattle.afdx_switch.proofs.SetLemmas.{nowhere, zero-none_set}
use Rattle.afdx_switch.proofs.ports.PortSet.is_empty.Goals as goal

pub returns-clause-none : goal.returns-clause-none
unfolding holds
returns-clause-none c = zero-none_set c.args.self.now.ports

pub returns-clause-no_port : goal.returns-clause-no_port
unfolding holds
returns-clause-no_port c =
    let none = returns-clause-none c in (
      λ empty p low high. none.0 empty p,
      λ of_ports. none.1 (nowhere c.args.self.now.ports c.args.self.now.in_range of_ports),
    )
