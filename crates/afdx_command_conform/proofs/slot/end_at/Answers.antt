use Rattle.std.proofs.Common.{sym, ap, subst}
use Rattle.afdx_command_conform.specs.Slots.{StrangersStand, StreamEnds, StreamStands}
use Rattle.afdx_command_conform.specs.Waiting.{slot_due}
use Rattle.afdx_conform.specs.Standing.{StandsFor}
use Rattle.afdx_command_conform.specs.declared.slot.Slot.{Slot}
use Rattle.afdx_conform.specs.declared.streaming.Stream.{Stream}
use Rattle.afdx_command_conform.proofs.SlotLemmas.{ends-others, not-stream, same-due}
use Rattle.afdx_command_conform.proofs.slot.end_at.Goals as goal

pub returns-in-Stream : goal.returns-in-Stream
unfolding StreamStands StreamEnds StrangersStand slot_due
returns-in-Stream c = record {
  streams = λ z k xs ys lines time is le stands.
      let here = subst (λ (s : Slot). StreamStands z k xs ys lines time s) c.in-Stream.is stands in (
        here.0,
        c.end.ensures.ends z xs ys here.0 time is le
            (subst (λ (s : Stream). StandsFor z xs ys here.0 time s) (sym c.deref_mut.ensures.value) here.1),
        here.2,
        here.3,
      );
  strangers = λ k all lines stands. absurd (subst (λ (s : Slot). StrangersStand k all lines s) c.in-Stream.is stands);
  due = λ z k xs ys lines time is le all stands.
      let here = subst (λ (s : Slot). StreamStands z k xs ys lines time s) c.in-Stream.is stands in
      same-due (slot_due c.args.at.now) c.in-Stream.stream.value c.deref_mut.result.now c.end.new.self
      (ap slot_due c.in-Stream.is)
      c.deref_mut.ensures.value
      (c.end.ensures.due_same z xs ys here.0 time is le all
      (subst (λ (s : Stream). StandsFor z xs ys here.0 time s) (sym c.deref_mut.ensures.value) here.1));
  due_strange = λ k all lines stands. absurd (subst (λ (s : Slot). StrangersStand k all lines s) c.in-Stream.is stands);
}

pub returns-in_default : goal.returns-in_default
returns-in_default c = ends-others c.args.until c.args.at.now (not-stream c.args.at.now c.in_default.not-Stream)
