use Rattle.std.proofs.Common.{sym, subst, []}
use Rattle.afdx_network.specs.Network as network
use Rattle.afdx_cascade.specs.Plans.{tables_of}
use Rattle.afdx_switch.proofs.NewLemmas.{gathered-push}
use Rattle.afdx_cascade.proofs.PlanLemmas.{tables-are}
use Rattle.afdx_cascade.proofs.build.new_networks.Goals as goal

pub loop-place-preserved : goal.loop-place-preserved
loop-place-preserved c =
    let ss = c.args.switches.now in
    let k = c.loop-place.place in
    let n = c.in_ok-new.field-0 in
    let tables = tables-are ss k _ c.tables-tables.ensures.tables in
    rw c.in_ok-push.ensures.items
    (gathered-push (λ i m. network.StandsFor (tables_of ss i) m [] × network.IsUntil m 0) k
    c.loop-place.networks.items n c.loop-place.invariant
    (subst (λ t. network.StandsFor t n []) (sym tables) c.in_ok-new.ensures.stands, c.in_ok-new.ensures.clock))

pub returns-clause-stands : goal.returns-clause-stands
returns-clause-stands c k n at = (c.loop-place.invariant.each k n at).0

pub returns-clause-clock : goal.returns-clause-clock
returns-clause-clock c k n at = (c.loop-place.invariant.each k n at).1
