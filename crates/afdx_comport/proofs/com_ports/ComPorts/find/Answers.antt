use Rattle.std.proofs.Common.{◌∙◌}
use Rattle.afdx_comport.specs.Ports.{is_for}
use Rattle.afdx_comport.proofs.PlaceLemmas.{known_at}
use Rattle.afdx_comport.proofs.com_ports.ComPorts.find.Goals as goal

pub returns-clause-place : goal.returns-clause-place
returns-clause-place c =
    rw (← c.self.view_is) (c.copied.ensures ∙ c.get.ensures.value
    ∙ c.self.invariant.0 (c.args.link, c.args.udp))

pub returns-clause-known : goal.returns-clause-known
returns-clause-known c = known_at (is_for c.args.link.0 c.args.udp) c.args.self.now c.copied.result
    (returns-clause-place c)
