use Rattle.afdx_switch.proofs.switch.Switch.early.Goals as goal

pub returns : goal.returns
returns c = rw (← c.self.view_is) c.early.ensures
