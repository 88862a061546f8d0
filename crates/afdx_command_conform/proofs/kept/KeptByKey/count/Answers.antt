use Rattle.std.proofs.Common.{sym, ap, ◌∙◌, subst, arith}
use Rattle.std.proofs.lemmas.List.{get_or_past}
use Rattle.afdx_command_conform.specs.Keys.{key_place}
use Rattle.afdx_command_conform.specs.Slots.{StreamEnds}
use Rattle.afdx_command_conform.specs.Waiting.{slot_due}
use Rattle.afdx_command_conform.specs.declared.slot.Slot.TheVariants.{Nothing}
use Rattle.afdx_command_conform.proofs.AddedLemmas.{read-there}
use Rattle.afdx_command_conform.proofs.kept.KeptByKey.count.Goals as goal

pub returns-then-place-len-clause-counted : goal.returns-then-place-len-clause-counted
returns-then-place-len-clause-counted c n z xs ys lines due ends has =
    let slots = c.args.self.now.slots.items in
    let there = read-there slots c.args.key c.place-place.result c.index.result.now c.place-place.ensures
    (let test = c.if-place-len.true in let at = c.place-place.ensures in omega (arith, test, at)) c.index.ensures in
    c.add.ensures.counted n z c.args.key xs ys lines (ap slot_due there ∙ due)
    (subst (λ s. StreamEnds z c.args.key xs ys lines s) (sym there) ends) has

pub returns-else-place-len-clause-counted : goal.returns-else-place-len-clause-counted
returns-else-place-len-clause-counted c n z xs ys lines due ends has =
    let slots = c.args.self.now.slots.items in
    let there = get_or_past slots (key_place c.args.key) Nothing
    (let test = c.if-place-len.false in let at = c.place-place.ensures in omega (arith, test, at)) in
    c.add-else-place-len.ensures.counted n z c.args.key xs ys lines (sym (ap slot_due there) ∙ due)
    (subst (λ s. StreamEnds z c.args.key xs ys lines s) there ends) has
