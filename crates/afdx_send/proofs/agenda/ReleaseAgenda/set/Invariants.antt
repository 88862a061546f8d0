use Rattle.std.proofs.Common.{◌≡◌, drop}
use Rattle.afdx_send.proofs.AgendaLemmas.{IsPlayedTo}
use Rattle.afdx_send.proofs.agenda.ReleaseAgenda.set.Given as goal

abbrev pub invariant-loop-node : goal.invariant-loop-node
invariant-loop-node l = IsPlayedTo l.initial.self.count
    (drop l.initial.self.count l.initial.self.nodes.items) l.self.nodes.items l.node
    × (l.self.count ≡ l.initial.self.count)

abbrev pub decreases-loop-node : goal.decreases-loop-node
decreases-loop-node l = l.node
