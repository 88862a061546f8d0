use Rattle.std.proofs.Common.{◌≡◌, ◌∙◌, arith, length}
use Rattle.std.specs.Prelude.{Some, slice_get}
use Rattle.afdx_network.specs.declared.network.Network.{Network}
use Rattle.afdx_switch.proofs.NewLemmas.{gathered-push}
use Rattle.afdx_cascade.specs.Keys.{IsKey}
use Rattle.afdx_cascade.proofs.build.new_keys.Goals as goal

pub loop-place-preserved : goal.loop-place-preserved
loop-place-preserved c =
    rw c.in_ok-push.ensures.items
    (gathered-push (λ k key. (n : Network) → slice_get c.args.networks.now k ≡ Some n → IsKey k n key)
    c.loop-place.place c.loop-place.keys.items c.key_of.result c.loop-place.invariant
    (rw c.nth.ensures.place at c.key_of.ensures))

pub returns : goal.returns
returns c =
    let all : c.loop-place.place ≡ length c.args.networks.now =
    omega (arith, c.loop-place-test.false, c.loop-place.auto.place-end) in
    record {
      count = c.loop-place.invariant.counted ∙ all;
      each = λ k key n here there. c.loop-place.invariant.each k key here n there;
    }
