-- What is still to be told.
use Rattle.std.specs.Prelude.{ℕ, List, [], ◌∷◌, Option, Some, None, length}
use Rattle.std.specs.List.{sum_by}
use Rattle.afdx_conform.specs.Standing.{due_of, undecided_in}
use Rattle.afdx_command_conform.specs.declared.slot.Slot.{Slot}
use Rattle.afdx_command_conform.specs.declared.slot.Slot.TheVariants.{Nothing, Strangers, Stream}
use Rattle.afdx_command_conform.specs.declared.strangers.Stranger.{Stranger}

-- when the first of these left
abbrev pub first_time : List Stranger → Option ℕ
first_time [] = None
first_time (x ∷ more) = Some x.time

-- the moment of what is to be told next of a slot
unfoldable pub slot_due : Slot → Option ℕ
slot_due Nothing = None
slot_due (Strangers strangers) = first_time strangers.value.waiting.items
slot_due (Stream stream told) = due_of stream.value

-- how many frames and events are left there
unfoldable pub slot_left : Slot → ℕ
slot_left Nothing = 0
slot_left (Strangers strangers) = length strangers.value.waiting.items
slot_left (Stream stream told) = undecided_in stream.value

-- and in all slots
abbrev pub left_in : List Slot → ℕ
left_in slots = sum_by slot_left slots
