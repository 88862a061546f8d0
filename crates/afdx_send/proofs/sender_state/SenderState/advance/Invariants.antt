use Rattle.std.proofs.Common.{◌≡◌, None}
use Rattle.afdx_send.specs.Sender.{SenderHistory, StandsFor, IsSenderSound, messages_held, frames_held}
use Rattle.afdx_send.proofs.sender_state.SenderState.advance.Given as goal

abbrev pub invariant-loop-time : goal.invariant-loop-time
invariant-loop-time l = record {
  sound : IsSenderSound l.self;
  idle : l.self.ready ≡ None;
  stands : (h : SenderHistory) → StandsFor l.initial.self h → StandsFor l.self h;
  clock : l.self.clock ≡ l.initial.self.clock;
  held : frames_held l.self ≡ frames_held l.initial.self;
}

abbrev pub decreases-loop-time : goal.decreases-loop-time
decreases-loop-time l = messages_held l.self
