use Rattle.std.proofs.Common.{sym}
use Rattle.afdx_admit.specs.Cascade.{cascade_lines}
use Rattle.afdx_admit.proofs.WalkLemmas.{first-none, first-stop}
use Rattle.afdx_admit.proofs.cascade_lines.first_fault.Goals as goal

pub returns-in-Ok-clause-fault : goal.returns-in-Ok-clause-fault
returns-in-Ok-clause-fault c = first-none (cascade_lines c.args.switches.now) c.in-Ok.ensures.walks

pub returns-in-Err-clause-fault : goal.returns-in-Err-clause-fault
returns-in-Err-clause-fault c =
    sym (first-stop (cascade_lines c.args.switches.now) c.in-Err.fault c.in-Err.ensures.walks)
