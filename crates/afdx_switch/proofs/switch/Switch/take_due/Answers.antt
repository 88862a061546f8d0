use Rattle.afdx_switch.proofs.switch.Switch.take_due.Goals as goal

pub take_due-departure-requires-clause-given : goal.take_due-departure-requires-clause-given
take_due-departure-requires-clause-given c = rw (← c.self.view_is) at c.requires.given

pub returns : goal.returns
returns c = rw (← c.self.view_is) c.take_due-departure.ensures.takes
