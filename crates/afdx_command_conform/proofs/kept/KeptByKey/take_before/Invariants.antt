use Rattle.std.proofs.Common.{◌≡◌, ℕ, List, length}
use Rattle.std.specs.Prelude.{Option}
use Rattle.afdx_config.specs.Rows.{Rows}
use Rattle.afdx_command_conform.specs.Choices.{Choices}
use Rattle.afdx_command_conform.specs.Keeping.{AreKept, Given}
use Rattle.afdx_command_conform.specs.Lines.{Due}
use Rattle.afdx_command_conform.specs.declared.key.Key.{Key}
use Rattle.afdx_command_conform.proofs.kept.KeptByKey.take_before.Given as goal

abbrev pub invariant-loop-entry : goal.invariant-loop-entry
invariant-loop-entry l = record {
  slots : l.self.slots ≡ l.fn.self.slots;
  kept : (t : Rows) (c : Choices) (until : ℕ) (ended : Option ℕ) (time : ℕ) (given : Key → Given) (lines : List Due)
      → AreKept t c until ended time given lines l.fn.self → AreKept t c until ended time given lines l.self;
}

abbrev pub decreases-loop-entry : goal.decreases-loop-entry
decreases-loop-entry l = length l.self.agenda
