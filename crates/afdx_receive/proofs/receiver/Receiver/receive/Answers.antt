use Rattle.afdx_receive.proofs.receiver.Receiver.receive.Goals as goal

pub returns-clause-received : goal.returns-clause-received
returns-clause-received c = rw c.new.ensures at c.receive_checked.ensures.received
