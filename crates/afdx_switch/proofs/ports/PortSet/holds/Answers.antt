use Rattle.std.proofs.Common.{◌==◌, ap}
use Rattle.std.proofs.lemmas.Nat.Bits.{shr_and_one}
use Rattle.afdx_switch.specs.Ports.{holds}
use Rattle.afdx_switch.proofs.SetLemmas.{over-not_set}
use Rattle.afdx_switch.proofs.ports.PortSet.holds.Goals as goal

pub returns-then-port-le-LAST_PORT-clause-held : goal.returns-then-port-le-LAST_PORT-clause-held
unfolding holds
returns-then-port-le-LAST_PORT-clause-held c =
    ap (λ n. n == 1) (shr_and_one c.args.self.now.ports c.args.port)

pub returns-else-port-le-LAST_PORT-clause-held : goal.returns-else-port-le-LAST_PORT-clause-held
unfolding holds
returns-else-port-le-LAST_PORT-clause-held c =
    over-not_set c.args.self.now.ports c.args.port c.args.self.now.in_range c.if-port-le-LAST_PORT.false
