use Rattle.std.proofs.Common.{◌≡◌, ◌*◌, ◌/◌, ◌%◌, length, subst, arith}
use Rattle.afdx_config.specs.Switches.{far_end}
use Rattle.afdx_switch.proofs.NewLemmas.{Gathered, gathered-push}
use Rattle.afdx_cascade.proofs.BuildLemmas.{ends-are}
use Rattle.afdx_cascade.proofs.build.new_ends.Goals as goal

pub loop-place-preserved : goal.loop-place-preserved
loop-place-preserved c =
    let ss = c.args.switches.now in
    rw c.in_ok-push.ensures.items
    (gathered-push (λ i e. e ≡ far_end ss (i / 25) (i % 25)) c.loop-place.place
    c.loop-place.ends.items c.far_end.result c.loop-place.invariant
    (rw c.nth-switch.ensures.place at c.far_end.ensures))

pub returns : goal.returns
returns c =
    let ss = c.args.switches.now in
    let count = c.count-place-end.ensures.count in
    let all : c.loop-place.place ≡ 25 * length ss =
    omega (arith, c.loop-place-test.false, c.loop-place.auto.place-end, count) in
    ends-are ss c.loop-place.ends.items
    (subst (λ n. Gathered (λ i e. e ≡ far_end ss (i / 25) (i % 25)) n c.loop-place.ends.items)
    all c.loop-place.invariant)
