use Rattle.std.proofs.Common.{sym, subst}
use Rattle.afdx_config.specs.Switches.{AreSwitches}
use Rattle.afdx_solve.proofs.solving_cascade.settle.Goals as goal

pub returns-clause-switches : goal.returns-clause-switches
returns-clause-switches c =
    subst AreSwitches (sym (c.raise_all.ensures.raises.same c.loop-options-test.false)) c.raise_all.ensures.switches
