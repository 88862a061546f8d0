use Rattle.afdx_port.proofs.DueLemmas.{next_due, quiet_after, after_quiet, empty_quiet}
use Rattle.afdx_port.proofs.TakeLemmas.{all_done}
use Rattle.afdx_port.proofs.laws.due_is_next.Goals as goal

pub returns-clause-due : goal.returns-clause-due
returns-clause-due g c = λ p h s st n. next_due g.T.HasLength.facts p h s st n

pub returns-clause-quiet : goal.returns-clause-quiet
returns-clause-quiet g c =
    λ p h t st. (
      λ quiet s n. quiet_after g.T.HasLength.facts p h t s st quiet n,
      λ after. after_quiet g.T.HasLength.facts p h t st after,
    )

pub returns-clause-all_done : goal.returns-clause-all_done
returns-clause-all_done g c = λ p h st none. all_done g.T.HasLength.facts p h st none

pub returns-clause-empty : goal.returns-clause-empty
returns-clause-empty g c = λ p t none. empty_quiet g.T.HasLength.facts p t none
