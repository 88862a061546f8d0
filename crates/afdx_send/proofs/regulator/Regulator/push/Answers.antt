use Rattle.afdx_send.proofs.RegulatorLemmas.{joined, kept, on_err}
use Rattle.afdx_send.proofs.regulator.Regulator.push.Goals as goal

pub returns-in_err-push_back-clause-err : goal.returns-in_err-push_back-clause-err
returns-in_err-push_back-clause-err c =
    on_err c.from_residual.result _
    (kept (λ q. q.items) c.args.self.now.queues.items c.args.index c.index_mut.result.now
    c.push_back.new.self c.index_mut.ensures.value c.in_err-push_back.ensures.items)

pub returns-clause-ok : goal.returns-clause-ok
returns-clause-ok c = joined (λ q. q.items) c.args.self.now.queues.items c.args.index
    c.index_mut.result.now c.push_back.new.self c.args.message c.requires.place
    c.index_mut.ensures.value c.in_ok-push_back.ensures.items
