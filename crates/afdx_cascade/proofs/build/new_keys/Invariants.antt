use Rattle.std.specs.Prelude.{◌≡◌, Some, slice_get}
use Rattle.afdx_network.specs.declared.network.Network.{Network}
use Rattle.afdx_switch.proofs.NewLemmas.{Gathered}
use Rattle.afdx_cascade.specs.Keys.{IsKey}
use Rattle.afdx_cascade.proofs.build.new_keys.Given as goal

abbrev pub invariant-loop-place : goal.invariant-loop-place
invariant-loop-place l =
    Gathered (λ k key. (n : Network) → slice_get l.networks k ≡ Some n → IsKey k n key) l.place l.keys.items
