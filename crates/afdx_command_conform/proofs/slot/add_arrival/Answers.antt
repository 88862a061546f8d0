use Rattle.std.proofs.Common.{sym, subst}
use Rattle.afdx_command_conform.specs.Slots.{StreamStands}
use Rattle.afdx_conform.specs.Standing.{StandsFor}
use Rattle.afdx_command_conform.specs.declared.slot.Slot.{Slot}
use Rattle.afdx_conform.specs.declared.streaming.Stream.{Stream}
use Rattle.afdx_command_conform.proofs.slot.add_arrival.Goals as goal

pub returns-in_ok-came-in-Stream-clause-stands : goal.returns-in_ok-came-in-Stream-clause-stands
unfolding StreamStands
returns-in_ok-came-in-Stream-clause-stands c z k xs ys lines time some judged may stands =
    let here = subst (λ (s : Slot). StreamStands z k xs ys lines time s) c.in-Stream.is stands in (
      here.0,
      c.in_ok-came-in-Stream.ensures.stands z xs ys here.0 time judged may
          (subst (λ (s : Stream). StandsFor z xs ys here.0 time s) (sym c.deref_mut.ensures.value) here.1),
      here.2,
      here.3,
    )
