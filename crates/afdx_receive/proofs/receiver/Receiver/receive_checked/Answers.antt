use Rattle.std.proofs.Common.{sym, refl, true, false, ◌∙◌}
use Rattle.afdx_receive.proofs.ReceiverLemmas.{looked_up, port_is}
use Rattle.afdx_receive.proofs.receiver.Receiver.receive_checked.Goals as goal

pub returns-in-Dropped-clause-received : goal.returns-in-Dropped-clause-received
returns-in-Dropped-clause-received c tables system past stands =
    looked_up tables system past _ _ _ _
    (c.in-Dropped.ensures.selected tables system past stands.links) refl stands.ports

pub returns-then-not-contains-clause-received : goal.returns-then-not-contains-clause-received
returns-then-not-contains-clause-received c tables system past stands =
    looked_up tables system past _ _ _ _
    (c.in-Message.ensures.selected tables system past stands.links)
    (port_is tables system c.in-Message.vl.0 c.in-Message.udp c.in-Message.bytes.now false
    (sym (c.contains.ensures ∙ stands.ports (record { link = c.in-Message.vl; udp = c.in-Message.udp }))
    ∙ c.if-not-contains.true))
    stands.ports

pub returns-else-not-contains-clause-received : goal.returns-else-not-contains-clause-received
returns-else-not-contains-clause-received c tables system past stands =
    looked_up tables system past _ _ _ _
    (c.in-Message.ensures.selected tables system past stands.links)
    (port_is tables system c.in-Message.vl.0 c.in-Message.udp c.in-Message.bytes.now true
    (sym (c.contains.ensures ∙ stands.ports (record { link = c.in-Message.vl; udp = c.in-Message.udp }))
    ∙ c.if-not-contains.false))
    stands.ports
