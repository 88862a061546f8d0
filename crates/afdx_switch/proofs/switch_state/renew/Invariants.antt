use Rattle.std.proofs.Common.{List}
use Rattle.afdx_port.specs.Serving.{IsServing}
use Rattle.afdx_port.specs.declared.port_state.PortState.{PortState}
use Rattle.afdx_switch.specs.HeldFrames.{HeldFrame, facts}
use Rattle.afdx_switch.proofs.ForwardLemmas.{RenewedTo}
use Rattle.afdx_switch.proofs.switch_state.renew.Given as goal

abbrev pub invariant-loop-place : goal.invariant-loop-place
invariant-loop-place l =
    (old : List (PortState HeldFrame)) → IsServing facts old l.initial.serving
    → RenewedTo l.places old l.ports l.serving l.place-index
