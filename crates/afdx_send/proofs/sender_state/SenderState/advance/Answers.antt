use Rattle.std.proofs.Common.{arith, ap, sym, ◌∙◌, ◌≡◌, None}
use Rattle.afdx_send.specs.Sender.{messages_held, ready_count}
use Rattle.afdx_send.proofs.EmitLemmas.{none_of}
use Rattle.afdx_send.proofs.sender_state.SenderState.advance.Goals as goal

pub release-requires-clause-sound : goal.release-requires-clause-sound
release-requires-clause-sound c = (
  c.loop-time.invariant.sound.0,
  c.take.ensures.stands c.loop-time.invariant.sound.0
      c.loop-time.invariant.sound.1,
)

pub loop-time-preserved : goal.loop-time-preserved
loop-time-preserved c =
    let inv = c.loop-time.invariant in
    let none : c.take.new.self.ready ≡ None =
    none_of c.take.new.self.ready (sym c.is_some.ensures ∙ c.if-is_some.false) in
    let m : messages_held c.take.new.self ≡ messages_held c.loop-time.self = ap messages_held c.take.ensures.rest in
    let r : ready_count c.take.new.self.ready ≡ 0 = ap ready_count none in
    let r0 : ready_count c.loop-time.self.ready ≡ 0 = ap ready_count inv.idle in
    let r1 : ready_count c.release.new.self.ready ≡ 0 = ap ready_count c.release.ensures.idle in
    let a = c.release.ensures.held in
    let b = c.release.ensures.port_held in
    let d = c.take.ensures.held in
    let e = inv.held in
    record {
      sound = (inv.sound.0, c.release.ensures.stands inv.sound.0 (c.take.ensures.stands inv.sound.0 inv.sound.1));
      idle = c.release.ensures.idle;
      stands = λ h st. c.release.ensures.stands h (c.take.ensures.stands h (inv.stands h st));
      clock = c.release.ensures.clock ∙ ap (λ w. w.clock) c.take.ensures.rest ∙ inv.clock;
      held = omega arith;
    }
