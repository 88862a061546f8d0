-- What is left in the slots.
use Rattle.std.proofs.Common.{◌<◌, ℕ, List, length, get_or, arith}
use Rattle.std.proofs.Math.ListN.{set}
use Rattle.std.proofs.lemmas.List.Sums.{sum_by-set}
use Rattle.afdx_command_conform.specs.Waiting.{left_in, slot_left}
use Rattle.afdx_command_conform.specs.declared.slot.Slot.{Slot}

-- less is left in one of them
pub left-less : (slots : List Slot) (i : ℕ) (d new : Slot) → i < length slots
    → slot_left new < slot_left (get_or slots i d) → left_in (set slots i new) < left_in slots
left-less slots i d new within less = omega (arith, sum_by-set slot_left slots i new d within, less)
