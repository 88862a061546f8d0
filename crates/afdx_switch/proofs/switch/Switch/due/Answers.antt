use Rattle.afdx_switch.proofs.switch.Switch.due.Goals as goal

pub returns : goal.returns
returns c = rw (← c.self.view_is) c.due.ensures
