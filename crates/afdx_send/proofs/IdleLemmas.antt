-- A sender that knows that nothing is left to be done.
use Rattle.std.proofs.Common.{◌≡◌, ◌<◌, ◌∙◌, Bool, true, true≢false, not, ap, refl, Option, Some, None}
use Rattle.std.specs.Prelude.{is_some}
use Rattle.afdx_port.specs.declared.left.Left.{Left}
use Rattle.afdx_send.specs.declared.sender_state.SenderState.{SenderState}
use Rattle.afdx_send.specs.Frames.{Frame}
use Rattle.afdx_send.specs.Sender.{IsIdle, KnowsIdle}

-- what it knows changes nothing else
idle_marked : (w : SenderState) (b : Bool) → IsIdle w → IsIdle (record w { is_idle = b })
idle_marked w b idle = record { ready = idle.ready; quiet = idle.quiet; none = idle.none }

-- once nothing is ready that leaves by the last time used
pub knows_marked : (w : SenderState) (b : Bool) → (b ≡ true → w.ready ≡ None) → (w.ready ≡ None → IsIdle w)
    → (b ≡ true → w.clock < 1200000000000000) → KnowsIdle (record w { is_idle = b })
knows_marked w b gone idle soon = record { idle = λ is. idle_marked w b (idle (gone is)); soon = soon }

-- after a message was taken, which comes before the end of the drain
pub knows_taken : (w : SenderState) → IsIdle w → w.clock < 1200000000000000 → KnowsIdle w
knows_taken w idle soon = record { idle = λ is. idle; soon = λ is. soon }

-- it isn't idle while a frame is ready, whatever becomes of that
pub knows_ready : (w : SenderState) (left : Left Frame) (o : Option (Left Frame)) → w.ready ≡ Some left → KnowsIdle w →
    KnowsIdle (record w { ready = o })
knows_ready w left o is knows = record { idle = λ idle. absurd (never idle); soon = knows.soon }
  where
    never : w.is_idle ≡ true → ⊥
    never idle = let none = (knows.idle idle).ready in cc (is, none)

pub none_of : {X : Type 0} (o : Option X) (is : Bool) → is_some o ≡ not is → is ≡ true → o ≡ None
none_of None is e true_is = refl
none_of (Some x) is e true_is = absurd (true≢false (e ∙ ap not true_is))
