use Rattle.std.proofs.Common.{◌≡◌, ℕ, Bool, List, None, false}
use Rattle.afdx_config.specs.Rows.{Rows}
use Rattle.afdx_command_conform.specs.Keeping.{IsSomeUpTo}
use Rattle.afdx_command_conform.specs.Lines.{Due}
use Rattle.afdx_input_runs.specs.Joining.{Frame}
use Rattle.afdx_command_conform.specs.Choices.{Choices}
use Rattle.afdx_command_conform.specs.Told.{HasTold, told_by}
use Rattle.afdx_command_conform.specs.Waiting.{left_in}
use Rattle.afdx_command_conform.proofs.judging.JudgingRun.collect.Given as goal

abbrev pub invariant-loop-lines : goal.invariant-loop-lines
invariant-loop-lines l = record {
  stands : (k : Rows × Choices) (last : Bool) (time : ℕ) (frames : List Frame) (dues : List Due)
      → (l.fn.self.streams.ended ≡ None → IsSomeUpTo time l.before) → (last ≡ false → IsSomeUpTo time l.before)
      → HasTold k last time l.fn.self frames (told_by l.fn.due.items dues)
      → HasTold k last time l.self frames (told_by l.due.items dues);
  ended : l.self.streams.ended ≡ l.fn.self.streams.ended;
}

abbrev pub decreases-loop-lines : goal.decreases-loop-lines
decreases-loop-lines l = left_in l.self.streams.kept.slots.items
