-- How much is held of what came in and left while a run goes on.
use Rattle.std.specs.Prelude.{ℕ, ◌*◌, ◌≤◌, List}
use Rattle.afdx_config.specs.Rows.{LinkRow, Rows}
use Rattle.afdx_conform.specs.Standing.{held_in, in_window}
use Rattle.afdx_input_runs.specs.Joining.{Frame}
use Rattle.afdx_command_conform.specs.Choices.{Choices}
use Rattle.afdx_command_conform.specs.Frames.{terms_at}
use Rattle.afdx_command_conform.specs.Keeping.{IsStreamOf, given_of, slot_at}
use Rattle.afdx_command_conform.specs.declared.kept.KeptByKey.{KeptByKey}
use Rattle.afdx_command_conform.specs.declared.key.Key.{Key}
use Rattle.afdx_command_conform.specs.declared.slot.Slot.{Slot}
use Rattle.afdx_command_conform.specs.declared.slot.Slot.TheVariants.{Nothing, Strangers, Stream}

-- how many arrivals and frames are held of a stream
abbrev pub slot_held : Slot → ℕ
slot_held Nothing = 0
slot_held (Strangers strangers) = 0
slot_held (Stream stream told) = held_in stream.value

-- of each stream at most twice as many as came and left in the last window before this time
abbrev pub HoldsOneWindow : Rows → Choices → (until : ℕ) → List Frame → (time : ℕ) → KeptByKey
    → Type 0
HoldsOneWindow t c until frames time kept = (k : Key) (l : LinkRow) → IsStreamOf t k l →
    slot_held (slot_at kept.slots.items k) ≤ 2 * in_window (terms_at t c until l k.port)
    (given_of t c frames k).came (given_of t c frames k).left time
