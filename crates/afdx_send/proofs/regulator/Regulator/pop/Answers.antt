use Rattle.std.proofs.Common.{arith, length, refl}
use Rattle.afdx_send.proofs.RegulatorLemmas.{popped, empty_list}
use Rattle.afdx_send.proofs.regulator.Regulator.pop.Goals as goal

pub returns-clause-front : goal.returns-clause-front
returns-clause-front c = popped (λ q. q.items) c.args.self.now.queues.items c.args.index
    c.index_mut.result.now c.pop_front.new.self c.pop_front.result (search) (search)
    c.pop_front.ensures.items
    (λ e. let ok = c.index_mut.result.now.ok.0 in
    let cases = rw e at c.pop_front.ensures.cases in
    empty_list c.index_mut.result.now.items (length c.index_mut.result.now.items) refl (omega (arith, cases.0)))
