use Rattle.std.proofs.Common.{◌≡◌, replicate, None}
use Rattle.afdx_send.proofs.agenda.ReleaseAgenda.new.Given as goal

abbrev pub invariant-loop : goal.invariant-loop
invariant-loop l = l.nodes.items ≡ replicate l.counter None
