use Rattle.std.proofs.Common.{◌≡◌, ℕ, List, Some, take}
use Rattle.std.specs.Prelude.{slice_get}
use Rattle.afdx_config.specs.Rows.{LinkRow}
use Rattle.afdx_input_runs.specs.Joining.{Frame}
use Rattle.afdx_command_conform.specs.Choices.{Choices}
use Rattle.afdx_command_conform.specs.Counting.{AreEnded, Counted, HasCounted, both_counted, counted_to}
use Rattle.afdx_command_conform.specs.Sight.{sight_in}
use Rattle.afdx_command_conform.proofs.counting.count_to.Given as goal

abbrev pub invariant-loop-rank : goal.invariant-loop-rank
invariant-loop-rank l = record {
  findings : l.totals.findings ≡ l.fn.totals.findings;
  left_out : l.totals.left_out ≡ l.fn.totals.left_out;
  unseen : l.totals.unseen ≡ l.fn.totals.unseen;
  exercised : l.totals.is_exercised ≡ l.fn.totals.is_exercised;
  counted : (c : Choices) (until : ℕ) (frames : List Frame) (n : Counted) (row : LinkRow)
      → slice_get l.tables.links l.link ≡ Some row → sight_in l.tables l.taps ≡ c.sight → AreEnded l.tables c
      until frames l.kept
      → HasCounted n l.fn.totals
      → HasCounted (both_counted n (counted_to l.tables c until frames l.side row (take l.rank row.to))) l.totals;
}
