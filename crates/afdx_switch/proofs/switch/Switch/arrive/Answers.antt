use Rattle.afdx_switch.proofs.switch.Switch.arrive.Goals as goal

pub returns : goal.returns
returns c = rw c.new.ensures at c.arrive_checked.ensures
