use Rattle.std.proofs.Common.{◌≡◌, ◌<◌, ℕ, length, slice_index}
use Rattle.afdx_solve.specs.Solved.{delay_to}
use Rattle.afdx_solve.proofs.delays.delays_of.Given as goal

abbrev pub invariant-loop-i : goal.invariant-loop-i
invariant-loop-i l = record {
  count : length l.delays ≡ 24;
  each : (place : ℕ) → place < l.i → slice_index l.delays place ≡ delay_to l.tables l.class place;
}
