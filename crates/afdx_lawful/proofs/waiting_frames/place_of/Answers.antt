use Rattle.std.proofs.Common.{ap, ◌∙◌}
use Rattle.std.specs.Prelude.{position}
use Rattle.afdx_lawful.specs.Rings.{holds_number}
use Rattle.afdx_lawful.proofs.SlotLemmas.{none_on, steps_on}
use Rattle.afdx_lawful.proofs.waiting_frames.place_of.Goals as goal

pub returns-in-Some : goal.returns-in-Some
returns-in-Some c =
    steps_on (holds_number c.args.number) c.args.slots.now c.args.from c.in-Some.steps c.requires.none_before
    (c.in-Some.ensures ∙ ap (position (holds_number c.args.number)) c.slots_from.ensures)

pub returns-in-None : goal.returns-in-None
returns-in-None c =
    none_on (holds_number c.args.number) c.args.slots.now c.args.from c.requires.none_before
    (c.in-None.ensures ∙ ap (position (holds_number c.args.number)) c.slots_from.ensures)
