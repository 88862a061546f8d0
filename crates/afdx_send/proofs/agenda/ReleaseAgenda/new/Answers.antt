use Rattle.std.proofs.Common.{arith, ap, ◌∙◌, None, replicate, ◌≡◌, ◌*◌}
use Rattle.afdx_send.proofs.AgendaLemmas.{new_times, new_tournament}
use Rattle.afdx_send.proofs.agenda.ReleaseAgenda.new.Goals as goal

pub returns-clause-none : goal.returns-clause-none
returns-clause-none c = let e : c.loop.counter ≡ 2 * c.args.count = omega (arith, c.loop-test.false)
    in new_times c.args.count c.loop.nodes.items (c.loop.invariant ∙ ap (λ n. replicate n None) e)

pub returns-clause-played : goal.returns-clause-played
returns-clause-played c = let e : c.loop.counter ≡ 2 * c.args.count =
    omega (arith, c.loop-test.false) in
    new_tournament c.args.count c.loop.nodes.items c.requires
    (c.loop.invariant ∙ ap (λ n. replicate n None) e)
