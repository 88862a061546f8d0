use Rattle.std.proofs.Common.{◌≡◌, ◌<◌, ℕ, length, slice_index}
use Rattle.afdx_admit.specs.Lines.{jitter_at}
use Rattle.afdx_admit.proofs.lines.sender_jitters.Given as goal

abbrev pub invariant-loop-i : goal.invariant-loop-i
invariant-loop-i l = record {
  count : length l.jitters ≡ 24;
  each : (place : ℕ) → place < l.i → slice_index l.jitters place ≡ jitter_at l.tables place;
}
