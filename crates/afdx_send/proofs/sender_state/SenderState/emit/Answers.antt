use Rattle.std.proofs.Common.{arith, ap, sym, ◌∙◌, subst, Option, ◌≡◌, ◌<◌, Some, None, Ok, Err, ℕ}
use Rattle.afdx_port.specs.Schedule.{Turn}
use Rattle.afdx_port.specs.declared.left.Left.{Left}
use Rattle.afdx_send.specs.Frames.{Frame}
use Rattle.afdx_send.specs.Calls.{Emits}
use Rattle.afdx_send.specs.Sender.{KnowsIdle, SenderHistory, at, with_emission, StandsFor, IsNextIn, ready_count}
use Rattle.afdx_send.proofs.CallLemmas.{emitted, none_ends, lacked}
use Rattle.afdx_send.proofs.EmitLemmas.{emits, left_next, no_more}
use Rattle.afdx_send.proofs.IdleLemmas.{knows_ready}
use Rattle.afdx_send.proofs.sender_state.SenderState.emit.Goals as goal

pub returns-in_default-clause-sound : goal.returns-in_default-clause-sound
returns-in_default-clause-sound c =
    let w = c.prepare.new.self in
    let none : w.ready ≡ None = sym c.take.ensures.value ∙ c.in_default.is in
    let h = at c.requires.sound.0 c.args.until in (
      h,
      subst (λ (o : Option (Left Frame)). StandsFor (record w { ready = o }) h)
          (none ∙ sym c.take.ensures.after)
          (c.prepare.ensures.stands c.requires.sound.0 c.requires.sound.1),
    )

pub returns-in_default-clause-emits : goal.returns-in_default-clause-emits
returns-in_default-clause-emits c =
    let w = c.prepare.new.self in
    let until = c.args.until in
    let none : w.ready ≡ None = sym c.take.ensures.value ∙ c.in_default.is in
    let laws = c.emissions_are_lawful.ensures in
    let last = λ (h : SenderHistory) (st : StandsFor c.args.self.now h) (s : Turn Frame) (n : IsNextIn h s).
    subst (λ (t : ℕ). t < s.end) c.prepare.ensures.clock
    (no_more w (at h until) c.due_is_next.ensures.quiet (c.prepare.ensures.stands h st)
    (c.prepare.ensures.idle none) s n) in
    subst (λ (o : Option (Left Frame)). Emits c.args.self.now (record w { ready = o }) until (Ok None))
    (none ∙ sym c.take.ensures.after)
    (none_ends c.args.self.now w until laws.in_time laws.buildable laws.lawful
    c.prepare.ensures.stands (λ h s st n. last h st s n)
    (λ h st late. c.prepare.ensures.done h st late none) (
      at c.requires.sound.0 until,
      c.prepare.ensures.stands c.requires.sound.0 c.requires.sound.1,
      λ s n. last c.requires.sound.0 c.requires.sound.1 s n,
    )
    c.prepare.ensures.clock c.prepare.ensures.held)

pub returns-in-Ok-clause-sound : goal.returns-in-Ok-clause-sound
returns-in-Ok-clause-sound c =
    let w = c.prepare.new.self in
    let h = c.requires.sound.0 in
    let g = emits w h c.args.until c.in-Some.left c.in-Ok.emission
    (c.prepare.ensures.stands h c.requires.sound.1) (sym c.take.ensures.value ∙ c.in-Some.is)
    c.taken_are_on_schedule.ensures.turns
    c.in-Ok.ensures.time c.in-Ok.ensures.vl c.in-Ok.ensures.a c.in-Ok.ensures.b
    c.in-Ok.ensures.a_read c.in-Ok.ensures.b_read c.in-Ok.ensures.sending in (
      with_emission h g.slot c.args.until,
      subst (λ (o : Option (Left Frame)). StandsFor (record w { ready = o })
          (with_emission h g.slot c.args.until)) (sym c.take.ensures.after) g.stands,
    )

pub returns-in-Ok-clause-emits : goal.returns-in-Ok-clause-emits
returns-in-Ok-clause-emits c =
    let w = c.prepare.new.self in
    let ready = sym c.take.ensures.value ∙ c.in-Some.is in
    let laws = c.emissions_are_lawful.ensures in
    subst (λ (o : Option (Left Frame)). Emits c.args.self.now (record w { ready = o }) c.args.until
    (Ok (Some c.in-Ok.emission))) (sym c.take.ensures.after)
    (emitted c.args.self.now (record w { ready = None }) c.args.until laws.in_time laws.buildable laws.lawful
    c.in-Ok.emission
    (λ h st. emits w h c.args.until c.in-Some.left c.in-Ok.emission (c.prepare.ensures.stands h st)
    ready c.taken_are_on_schedule.ensures.turns
    c.in-Ok.ensures.time c.in-Ok.ensures.vl c.in-Ok.ensures.a c.in-Ok.ensures.b
    c.in-Ok.ensures.a_read c.in-Ok.ensures.b_read c.in-Ok.ensures.sending)
    c.prepare.ensures.clock
    (let one = ap (λ o. ready_count o) ready in let held = c.prepare.ensures.held in omega (arith, one, held)))

pub returns-in-Err-clause-sound : goal.returns-in-Err-clause-sound
returns-in-Err-clause-sound c =
    let w = c.prepare.new.self in
    let h = at c.requires.sound.0 c.args.until in (
      h,
      subst (λ (o : Option (Left Frame)). StandsFor (record w { ready = o }) h)
          (sym c.take.ensures.value ∙ c.in-Some.is)
          (c.prepare.ensures.stands c.requires.sound.0 c.requires.sound.1),
    )

pub returns-in-Err-clause-emits : goal.returns-in-Err-clause-emits
returns-in-Err-clause-emits c =
    let w = c.prepare.new.self in
    let ready = sym c.take.ensures.value ∙ c.in-Some.is in
    let laws = c.emissions_are_lawful.ensures in
    subst (λ (o : Option (Left Frame)). Emits c.args.self.now (record w { ready = o }) c.args.until
    (Err c.in-Err.refused)) ready
    (lacked c.args.self.now w c.args.until laws.in_time laws.buildable laws.lawful c.in-Err.refused
    c.prepare.ensures.stands
    (λ h st.
    let n = left_next w h c.args.until c.in-Some.left (c.prepare.ensures.stands h st) ready
    c.taken_are_on_schedule.ensures.turns in
    (n.slot, n.next, n.in_time))
    c.prepare.ensures.clock c.prepare.ensures.held)

pub returns-in_default-clause-knows : goal.returns-in_default-clause-knows
returns-in_default-clause-knows c =
    let w = c.prepare.new.self in
    let none : w.ready ≡ None = sym c.take.ensures.value ∙ c.in_default.is in
    subst (λ (o : Option (Left Frame)). KnowsIdle (record w { ready = o })) (none ∙ sym c.take.ensures.after)
    c.prepare.ensures.knows

pub returns-in-Ok-clause-knows : goal.returns-in-Ok-clause-knows
returns-in-Ok-clause-knows c =
    let ready = sym c.take.ensures.value ∙ c.in-Some.is in
    knows_ready c.prepare.new.self c.in-Some.left _ ready c.prepare.ensures.knows

pub returns-in-Err-clause-knows : goal.returns-in-Err-clause-knows
returns-in-Err-clause-knows c =
    let ready = sym c.take.ensures.value ∙ c.in-Some.is in
    knows_ready c.prepare.new.self c.in-Some.left _ ready c.prepare.ensures.knows
