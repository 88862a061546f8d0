use Rattle.std.proofs.Common.{◌≡◌, None, drop, map}
use Rattle.afdx_send.specs.Regulator.{first_time, waiting_of}
use Rattle.afdx_send.proofs.regulator.Regulator.next_time.Given as goal

abbrev pub invariant-loop-queue : goal.invariant-loop-queue
invariant-loop-queue l =
    first_time l.first (map (λ q. q.items) (drop l.queue-index l.self.queues.items))
    ≡ first_time None (waiting_of l.self)
