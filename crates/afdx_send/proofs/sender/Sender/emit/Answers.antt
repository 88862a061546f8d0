use Rattle.afdx_send.proofs.sender.Sender.emit.Goals as goal

pub returns : goal.returns
returns c = rw (← c.self.view_is) c.emit.ensures.emits
