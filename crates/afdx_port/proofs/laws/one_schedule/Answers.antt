use Rattle.afdx_port.proofs.TurnLemmas.{schedule_begins, same_schedule}
use Rattle.afdx_port.proofs.ScheduleLemmas.{schedule_of_is}
use Rattle.afdx_port.proofs.laws.one_schedule.Goals as goal

pub returns-clause-exists : goal.returns-clause-exists
returns-clause-exists g c = λ byte_ns entries order. schedule_of_is byte_ns entries order

pub returns-clause-begins : goal.returns-clause-begins
returns-clause-begins g c = λ byte_ns entries turns begun all some. schedule_begins byte_ns entries turns begun all some

pub returns-clause-unique : goal.returns-clause-unique
returns-clause-unique g c = λ byte_ns entries a b h k. same_schedule byte_ns entries a b h k
