use Rattle.std.proofs.Common.{refl, ap, option_map, max}
use Rattle.afdx_send.proofs.RegulatorLemmas.{empty_queues, empty_sum, empty_first}
use Rattle.afdx_send.proofs.ReleaseLemmas.{fresh}
use Rattle.afdx_send.proofs.regulator.Regulator.new.Goals as goal

pub returns-clause-stands : goal.returns-clause-stands
returns-clause-stands c = fresh _ refl refl (empty_queues (λ q. q.items) c.loop.queues.items c.loop.invariant.1)

pub returns-clause-empty : goal.returns-clause-empty
returns-clause-empty c = empty_sum (λ q. q.items) c.loop.queues.items c.loop.invariant.1

pub returns-clause-next : goal.returns-clause-next
returns-clause-next c = ap (λ o. option_map (λ t. max t 0) o)
    (empty_first (λ q. q.items) c.loop.queues.items c.loop.invariant.1)
