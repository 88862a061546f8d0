use Rattle.afdx_port.proofs.TurnLemmas.{schedule_begins}
use Rattle.afdx_port.proofs.ScheduleLemmas.{schedule_of_is}
use Rattle.afdx_port.proofs.HistoryLemmas.{taken_turns}
use Rattle.afdx_port.specs.ScheduleOf.{schedule_of}
use Rattle.afdx_port.proofs.laws.taken_are_on_schedule.Goals as goal

pub returns-clause-schedule : goal.returns-clause-schedule
returns-clause-schedule g c =
    λ p h st. schedule_begins h.byte_ns h.entries (schedule_of h.byte_ns h.entries) h.taken
    (schedule_of_is h.byte_ns h.entries st.in_order) (taken_turns g.T.HasLength.facts p h st)

pub returns-clause-turns : goal.returns-clause-turns
returns-clause-turns g c = λ p h st. taken_turns g.T.HasLength.facts p h st

pub returns-clause-order : goal.returns-clause-order
returns-clause-order g c = λ p h st. st.in_order

pub returns-clause-clock : goal.returns-clause-clock
returns-clause-clock g c = λ p h st. st.clock
