-- What a run works with.
use Rattle.std.specs.Prelude.{◌≡◌}
use Rattle.afdx_command_conform.specs.Standing.{IsSameButKept}
use Rattle.afdx_command_conform.specs.declared.judging.JudgingRun.{JudgingRun}

-- but for the number of findings
pub record IsSameButFindings (old new : JudgingRun) : Type 0 where
  pub choices : new.choices ≡ old.choices
  pub streams : new.streams ≡ old.streams
  pub latest : new.latest ≡ old.latest
  pub left_out : new.left_out ≡ old.left_out

-- but for what is kept of the streams and what is left out
pub record IsSameButTaken (old new : JudgingRun) : Type 0 where
  pub choices : new.choices ≡ old.choices
  pub rules : IsSameButKept old.streams new.streams
  pub latest : new.latest ≡ old.latest
  pub findings : new.findings ≡ old.findings
