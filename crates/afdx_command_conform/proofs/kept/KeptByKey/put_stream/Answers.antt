use Rattle.std.proofs.Common.{[], false, set, refl, sym, ap, ◌∙◌, subst, arith}
use Rattle.afdx_conform.specs.Histories.{nothing_judged}
use Rattle.afdx_conform.specs.Standing.{StandsFor, due_of}
use Rattle.afdx_command_conform.specs.Frames.{terms_at}
use Rattle.afdx_command_conform.specs.Keeping.{slot_at}
use Rattle.afdx_command_conform.specs.Lines.{judged_dues}
use Rattle.afdx_command_conform.specs.Slots.{IsStream, StreamStands}
use Rattle.afdx_command_conform.specs.Waiting.{slot_due}
use Rattle.afdx_command_conform.specs.declared.kept.KeptByKey.{KeptByKey}
use Rattle.afdx_command_conform.specs.declared.slot.Slot.TheVariants as Slot
use Rattle.afdx_conform.specs.declared.streaming.Stream.{Stream}
use Rattle.afdx_command_conform.proofs.AddedLemmas.{kept-put, put-there, stands-within}
use Rattle.afdx_command_conform.proofs.KeyLemmas.{known-stream}
use Rattle.afdx_command_conform.proofs.kept.KeptByKey.put_stream.Goals as goal

pub returns-in_ok-new : goal.returns-in_ok-new
unfolding StreamStands judged_dues slot_due
returns-in_ok-new c t c' until time given lines l lawful is new no-due none kept =
    let key = c.args.key in
    let old : KeptByKey = c.args.self.now in
    let within = stands-within t c' until _ time given lines old key lawful (known-stream t key l is) kept in
    let slots = ap (λ n. set old.slots.items n (Slot.Stream c.in_ok-new.field-0 false)) c.place-place.ensures in (
      kept-put t c' until lawful time given lines old _ key (Slot.Stream c.in_ok-new.field-0 false) l is kept none (
        nothing_judged,
        subst (λ (s : Stream). StandsFor (terms_at t c' until l key.port) [] [] nothing_judged time s)
            (sym c.in_ok-new.ensures.ok) new,
        refl,
        refl,
      )
          (ap due_of c.in_ok-new.ensures.ok ∙ no-due) refl slots,
      subst (λ n. IsStream (slot_at (set old.slots.items n (Slot.Stream c.in_ok-new.field-0 false)) key))
          (sym c.place-place.ensures)
          (put-there old.slots.items key (Slot.Stream c.in_ok-new.field-0 false) within tt),
    )

pub returns-else-place-len : goal.returns-else-place-len
returns-else-place-len c t c' until time given lines l lawful is new no-due none kept =
    let key = c.args.key in
    let old : KeptByKey = c.args.self.now in
    let within = stands-within t c' until _ time given lines old key lawful (known-stream t key l is) kept in
    let past = c.if-place-len.false in
    let at = c.place-place.ensures in absurd (omega (arith, within, past, at))
