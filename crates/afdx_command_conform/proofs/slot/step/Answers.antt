use Rattle.std.proofs.Common.{◌≡◌, Some, ◌||◌, ◌==◌, sym, ap, ◌∙◌, subst}
use Rattle.std.specs.Prelude.{length, not}
use Rattle.afdx_command_conform.specs.Slots.{StreamEnds, StreamStands, told_at}
use Rattle.afdx_command_conform.specs.Waiting.{slot_due}
use Rattle.afdx_conform.specs.Standing.{IsEnding, StandsFor, due_of}
use Rattle.afdx_command_conform.specs.declared.slot.Slot.{Slot}
use Rattle.afdx_conform.specs.declared.streaming.Stream.{Stream}
use Rattle.afdx_command_conform.proofs.SlotLemmas.{told-line}
use Rattle.afdx_command_conform.proofs.slot.step.Goals as goal
use Rattle.afdx_command_conform.proofs.slot.step.Goals.{then-is_told, else-is_told}

pub returns-after-is_told-clause-stands : goal.returns-after-is_told-clause-stands
unfolding StreamStands slot_due
returns-after-is_told-clause-stands c z xs ys lines time moment none due lt stands =
    let here = subst (λ (s : Slot). StreamStands z c.args.key xs ys lines time s) c.in-Stream.is stands in
    let same = c.deref_mut-in-Stream.ensures.value in
    let told = c.in_ok-lines-in-Stream.lines.items in
    let at : due_of c.in-Stream.stream.value ≡ Some moment = sym (ap slot_due c.in-Stream.is) ∙ due in
    let r = c.in_ok-lines-in-Stream.ensures.stands z xs ys here.0 time moment none (ap due_of same ∙ at) lt
    (subst (λ (s : Stream). StandsFor z xs ys here.0 time s) (sym same) here.1) in (
      (
        r.0,
        r.1,
        ap (λ l. told_at c.args.key moment told l) here.2 ∙ sym r.2,
        elim c.if-is_told.branch [
          | then-is_told w ↦
              w.is_told-is ∙ w.if-is_told.true ∙ sym (told-line c.args.key moment told lines c.in-Stream.is_told here.3
              ∙ ap (λ b. b || not (length told == 0)) w.if-is_told.true)
          | else-is_told w ↦
              w.is_told-is ∙ ap not (w.is_empty.ensures ∙ ap (λ l. length l == 0) w.as_slice.ensures.value)
              ∙ sym (told-line c.args.key moment told lines c.in-Stream.is_told here.3
              ∙ ap (λ b. b || not (length told == 0)) w.if-is_told.false)
        ],
      ),
      r.3,
    )

pub returns-after-is_told-clause-ends : goal.returns-after-is_told-clause-ends
unfolding StreamEnds slot_due
returns-after-is_told-clause-ends c z xs ys lines moment end due stands =
    let here = subst (λ (s : Slot). StreamEnds z c.args.key xs ys lines s) c.in-Stream.is stands in
    let same = c.deref_mut-in-Stream.ensures.value in
    let told = c.in_ok-lines-in-Stream.lines.items in
    let at : due_of c.in-Stream.stream.value ≡ Some moment = sym (ap slot_due c.in-Stream.is) ∙ due in
    let r = c.in_ok-lines-in-Stream.ensures.ends z xs ys here.0 moment end (ap due_of same ∙ at)
    (subst (λ (s : Stream). IsEnding z xs ys here.0 s) (sym same) here.1) in (
      (
        r.0,
        r.1,
        ap (λ l. told_at c.args.key moment told l) here.2 ∙ sym r.2,
        elim c.if-is_told.branch [
          | then-is_told w ↦
              w.is_told-is ∙ w.if-is_told.true ∙ sym (told-line c.args.key moment told lines c.in-Stream.is_told here.3
              ∙ ap (λ b. b || not (length told == 0)) w.if-is_told.true)
          | else-is_told w ↦
              w.is_told-is ∙ ap not (w.is_empty.ensures ∙ ap (λ l. length l == 0) w.as_slice.ensures.value)
              ∙ sym (told-line c.args.key moment told lines c.in-Stream.is_told here.3
              ∙ ap (λ b. b || not (length told == 0)) w.if-is_told.false)
        ],
      ),
      r.3,
    )
