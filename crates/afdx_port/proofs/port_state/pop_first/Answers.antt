use Rattle.std.proofs.Common.{ap, sym, ◌∙◌}
use Rattle.afdx_port.proofs.QueueLemmas.{lone_first}
use Rattle.afdx_port.proofs.port_state.pop_first.Goals as goal

pub returns-then-len-eq1-clause-first : goal.returns-then-len-eq1-clause-first
returns-then-len-eq1-clause-first g c =
    lone_first c.args.queue.now.items c.pop_back.new.self.items c.pop_back.result
    (sym c.len.ensures.len ∙ c.if-len-eq1.true)
    c.pop_back.ensures.value (ap (λ b. b.items) c.pop_back.ensures.items)
