use Rattle.afdx_switch.proofs.switch.Switch.take.Goals as goal

pub returns-in-Some : goal.returns-in-Some
returns-in-Some c = rw (← c.self.view_is) c.take-taken.ensures.takes

pub returns-in_default : goal.returns-in_default
returns-in_default c = rw (← c.self.view_is) c.take-taken.ensures.takes
