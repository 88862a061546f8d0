use Rattle.afdx_switch.proofs.switch.Switch.arrive_checked.Goals as goal

pub returns : goal.returns
returns c = rw (← c.self.view_is) c.arrive-arrived.ensures.arrives
