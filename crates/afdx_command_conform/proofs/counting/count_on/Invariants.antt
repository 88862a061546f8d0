use Rattle.std.proofs.Common.{◌≡◌, ℕ, List, take}
use Rattle.afdx_input_runs.specs.Joining.{Frame}
use Rattle.afdx_command_conform.specs.Choices.{Choices}
use Rattle.afdx_command_conform.specs.Counting.{AreEnded, Counted, HasCounted, both_counted, counted_among}
use Rattle.afdx_command_conform.specs.Sight.{sight_in}
use Rattle.afdx_command_conform.proofs.counting.count_on.Given as goal

abbrev pub invariant-loop-link : goal.invariant-loop-link
invariant-loop-link l = record {
  findings : l.totals.findings ≡ l.fn.totals.findings;
  left_out : l.totals.left_out ≡ l.fn.totals.left_out;
  unseen : l.totals.unseen ≡ l.fn.totals.unseen;
  exercised : l.totals.is_exercised ≡ l.fn.totals.is_exercised;
  counted : (c : Choices) (until : ℕ) (frames : List Frame) (n : Counted)
      → sight_in l.tables l.taps ≡ c.sight → AreEnded l.tables c until frames l.kept → HasCounted n l.fn.totals
      → HasCounted (both_counted n (counted_among l.tables c until frames l.side
      (take l.link l.tables.links))) l.totals;
}
