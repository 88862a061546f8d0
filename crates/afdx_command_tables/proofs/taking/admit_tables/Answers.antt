use Rattle.afdx_command_tables.proofs.TakingLemmas.{tables-denied}
use Rattle.afdx_command_tables.proofs.taking.admit_tables.Goals as goal

pub returns-in-Err-clause-denied : goal.returns-in-Err-clause-denied
returns-in-Err-clause-denied g c =
    tables-denied _ _ _ _ c.args.tables c.in-Err.tables c.in-Err.fault c.in-Err.ensures.handed_back
    (λ a. cc (c.in-Err.ensures.exact.1 a)) c.in-Err.ensures.first c.refuse_tables.ensures
