use Rattle.std.proofs.Common.{◌≡◌, take}
use Rattle.std.specs.HashSet as bag
use Rattle.afdx_config.specs.Reading.{has_port}
use Rattle.afdx_receive.specs.StandsFor.{is_same_endpoint}
use Rattle.afdx_receive.specs.declared.receiver.Endpoint.{Endpoint}
use Rattle.afdx_receive.proofs.receiver.ports_of.Given as goal

-- the ports so far
abbrev pub invariant-loop-index : goal.invariant-loop-index
invariant-loop-index l = (to : Endpoint) → bag.contains is_same_endpoint l.ports to
    ≡ has_port (take l.index l.tables.ports) l.system.0 to.link.0 to.udp
