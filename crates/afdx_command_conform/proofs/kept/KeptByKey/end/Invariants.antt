use Rattle.std.proofs.Common.{◌≡◌, ℕ, ◌<◌, ◌≤◌, length, get_or}
use Rattle.afdx_command_conform.specs.Slots.{Ends}
use Rattle.afdx_command_conform.specs.declared.slot.Slot.TheVariants.{Nothing}
use Rattle.afdx_command_conform.proofs.kept.KeptByKey.end.Given as goal

abbrev pub invariant-loop-place : goal.invariant-loop-place
invariant-loop-place l = record {
  agenda : l.self.agenda ≡ l.fn.self.agenda;
  count : length l.self.slots.items ≡ length l.fn.self.slots.items;
  ends : (i : ℕ) → i < l.place → Ends l.until (get_or l.fn.self.slots.items i Nothing)
      (get_or l.self.slots.items i Nothing);
  same : (i : ℕ) → l.place ≤ i → get_or l.self.slots.items i Nothing ≡ get_or l.fn.self.slots.items i Nothing;
}
