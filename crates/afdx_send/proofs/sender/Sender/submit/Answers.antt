use Rattle.afdx_send.proofs.sender.Sender.submit.Goals as goal

pub returns : goal.returns
returns c = rw (← c.self.view_is) c.submit.ensures.submits
