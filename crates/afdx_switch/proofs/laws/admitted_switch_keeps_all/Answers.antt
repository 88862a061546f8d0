use Rattle.afdx_switch.proofs.AdmittedLemmas.{accepted-kept, accepted-enter, turns-in-time, all-left}
use Rattle.afdx_switch.proofs.laws.admitted_switch_keeps_all.Goals as goal

pub returns-clause-kept : goal.returns-clause-kept
returns-clause-kept c = accepted-kept

pub returns-clause-enter : goal.returns-clause-enter
returns-clause-enter c = accepted-enter

pub returns-clause-in_time : goal.returns-clause-in_time
returns-clause-in_time c = turns-in-time

pub returns-clause-left : goal.returns-clause-left
returns-clause-left c = all-left
