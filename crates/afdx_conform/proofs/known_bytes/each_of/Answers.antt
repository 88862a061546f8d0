use Rattle.std.proofs.Common.{◌+◌, ℕ, List, take, sym, subst, arith}
use Rattle.afdx_conform.specs.KnownBytes.{StandAt}
use Rattle.afdx_conform.proofs.PlacesLemmas.{stand-none, stand-taken}
use Rattle.afdx_conform.proofs.known_bytes.each_of.Goals as goal

pub loop-place-init : goal.loop-place-init
loop-place-init c test = stand-none test 0 c.in_ok-each.each.items c.in_ok-each.ensures.items

pub loop-place-preserved : goal.loop-place-preserved
loop-place-preserved c test =
    subst (λ (l : List ℕ). StandAt test 0 (take (c.loop-place.place + 1) c.args.arrivals.now) l)
    (sym c.in_ok-push.ensures.items)
    (stand-taken test 0 c.loop-place.place c.args.arrivals.now c.loop-place.each.items c.loop-place.place
    c.loop-place-test.true
    (omega arith) (c.loop-place.invariant test))
