use Rattle.afdx_command_tables.proofs.TakingLemmas.{switches-denied}
use Rattle.afdx_command_tables.proofs.taking.admit_switches.Goals as goal

pub returns-in-Err-clause-denied : goal.returns-in-Err-clause-denied
returns-in-Err-clause-denied g c =
    switches-denied _ _ _ _ c.args.switches c.in-Err.switches c.in-Err.fault c.in-Err.ensures.handed_back
    (λ a. cc (c.in-Err.ensures.exact.1 a)) c.in-Err.ensures.first c.refuse_switches.ensures
