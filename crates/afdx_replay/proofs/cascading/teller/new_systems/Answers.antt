use Rattle.std.proofs.Common.{sym, subst, []}
use Rattle.afdx_cascade.specs.Plans.{tables_of}
use Rattle.afdx_end_systems.specs.StandsFor as systems
use Rattle.afdx_switch.proofs.NewLemmas.{gathered-push}
use Rattle.afdx_replay.proofs.CascadeEventLemmas.{tables-are}
use Rattle.afdx_replay.proofs.cascading.teller.new_systems.Goals as goal

pub loop-place-preserved : goal.loop-place-preserved
loop-place-preserved c =
    let ss = c.args.switches.now in
    let k = c.loop-place.place in
    let x = c.in_ok-new.field-0 in
    let tables = tables-are ss k _ c.tables-tables.ensures.tables in
    rw c.in_ok-push.ensures.items
    (gathered-push (λ i y. systems.StandsFor (tables_of ss i) y []) k c.loop-place.all.items x c.loop-place.invariant
    (subst (λ t. systems.StandsFor t x []) (sym tables) c.in_ok-new.ensures.stands))

pub returns-clause-stands : goal.returns-clause-stands
returns-clause-stands c k x at = c.loop-place.invariant.each k x at
