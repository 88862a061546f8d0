use Rattle.std.proofs.Common.{sym, ◌∙◌, nat_eq, ◌&&◌}
use Rattle.afdx_config.specs.Reading.{has_port}
use Rattle.afdx_config.proofs.GatheredLemmas.{any_ports}
use Rattle.afdx_config.proofs.read_ports.is_taken.Goals as goal

pub returns : goal.returns
unfolding has_port
returns c = c.has_port.ensures
    ∙ sym (any_ports (λ p. (nat_eq p.system c.args.system.0 && nat_eq p.link c.args.link.0)
    && nat_eq p.udp c.args.udp) c.args.before.now)
