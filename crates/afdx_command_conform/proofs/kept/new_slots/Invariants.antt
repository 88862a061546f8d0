use Rattle.std.proofs.Common.{◌≡◌, ℕ, length, get_or}
use Rattle.afdx_command_conform.specs.declared.slot.Slot.TheVariants.{Nothing}
use Rattle.afdx_command_conform.proofs.kept.new_slots.Given as goal

abbrev pub invariant-loop : goal.invariant-loop
invariant-loop l = (length l.slots.items ≡ l.counter) × ((i : ℕ) → get_or l.slots.items i Nothing ≡ Nothing)
