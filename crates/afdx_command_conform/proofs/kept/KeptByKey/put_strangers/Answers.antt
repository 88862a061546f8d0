use Rattle.std.proofs.Common.{◌≡◌, [], ◌++◌, map, set, refl, sym, ap, ◌∙◌, subst, arith}
use Rattle.std.specs.Prelude.{reverse}
use Rattle.afdx_command_conform.specs.Keeping.{slot_at}
use Rattle.afdx_command_conform.specs.Slots.{IsStrange, StrangersStand, waiting_due}
use Rattle.afdx_command_conform.specs.Waiting.{first_time, slot_due}
use Rattle.afdx_command_conform.specs.declared.kept.KeptByKey.{KeptByKey}
use Rattle.afdx_command_conform.specs.declared.slot.Slot.TheVariants as Slot
use Rattle.afdx_command_conform.proofs.AddedLemmas.{kept-room, room-there, stands-within}
use Rattle.afdx_command_conform.proofs.kept.KeptByKey.put_strangers.Goals as goal

pub returns-in_ok-new : goal.returns-in_ok-new
unfolding StrangersStand slot_due
returns-in_ok-new c t c' until time given lines lawful none known vacant kept =
    let key = c.args.key in
    let old : KeptByKey = c.args.self.now in
    let within = stands-within t c' until _ time given lines old key lawful known kept in
    let empty : c.in_ok-new.field-0.value.waiting.items ≡ [] = ap (λ s. s.waiting.items) c.in_ok-new.ensures.ok
    ∙ c.new-strangers.ensures in
    let slots = ap (λ n. set old.slots.items n (Slot.Strangers c.in_ok-new.field-0)) c.place-place.ensures in (
      kept-room t c' until lawful time given lines old _ key (Slot.Strangers c.in_ok-new.field-0) none known kept vacant
          (ap (λ l. map (waiting_due key) (reverse l) ++ []) (sym empty)) (ap first_time empty) refl slots,
      subst (λ n. IsStrange (slot_at (set old.slots.items n (Slot.Strangers c.in_ok-new.field-0)) key))
          (sym c.place-place.ensures)
          (room-there old.slots.items key (Slot.Strangers c.in_ok-new.field-0) within tt),
    )

pub returns-else-place-len : goal.returns-else-place-len
returns-else-place-len c t c' until time given lines lawful none known vacant kept =
    let key = c.args.key in
    let old : KeptByKey = c.args.self.now in
    let within = stands-within t c' until _ time given lines old key lawful known kept in
    let past = c.if-place-len.false in
    let at = c.place-place.ensures in absurd (omega (arith, within, past, at))
