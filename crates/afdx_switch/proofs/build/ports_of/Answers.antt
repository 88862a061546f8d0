use Rattle.std.proofs.Common.{arith}
use Rattle.afdx_switch.proofs.PlaceLemmas.{no-places, place-pushed, place-skipped, places-are}
use Rattle.afdx_switch.proofs.build.ports_of.Goals.{then-goes, else-goes}
use Rattle.afdx_switch.proofs.build.ports_of.Goals as goal

pub loop-place-init : goal.loop-place-init
loop-place-init c = rw c.new-places.ensures (no-places _)

pub loop-place-preserved : goal.loop-place-preserved
loop-place-preserved c = elim c.if-goes.branch [
  | then-goes w ↦ rw (w.places-is, w.push.ensures.items)
      (place-pushed _ c.loop-place.place c.loop-place.places.items c.loop-place.invariant
      (λ l at. rw (w.if-goes.true, c.port_at.ensures) at (c.goes.ensures l at)))
  | else-goes w ↦ rw w.places-is
      (place-skipped _ c.loop-place.place c.loop-place.places.items c.loop-place.invariant
      (λ l at. rw (w.if-goes.false, c.port_at.ensures) at (c.goes.ensures l at)))
]

pub returns-clause-places : goal.returns-clause-places
returns-clause-places c = places-are _ c.loop-place.place c.loop-place.places.items (omega arith) c.loop-place.invariant

pub returns-clause-each : goal.returns-clause-each
returns-clause-each c l place at below =
    c.loop-place.invariant.each place (omega (arith, below, c.loop-place-test.false)) l at
