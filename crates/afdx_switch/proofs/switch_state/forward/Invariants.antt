use Rattle.afdx_switch.proofs.ForwardLemmas.{Forwarded}
use Rattle.afdx_switch.proofs.switch_state.forward.Given as goal

abbrev pub invariant-loop-place : goal.invariant-loop-place
invariant-loop-place l = Forwarded l.time l.priority l.places l.initial.shares.items l.initial.ports
    l.place-index l.shares.items l.ports l.lost
