-- What a run writes of moments before a time depends on the frames before that time alone. Lists of
-- frames and of lines have the newest first.
use Rattle.std.specs.Prelude.{ℕ, ◌<◌, ◌≤◌, ◌≡◌, List, ◌++◌, length}
use Rattle.std.specs.List.{AllByRecursion}
use Rattle.afdx_config.specs.Rows.{Rows}
use Rattle.afdx_input_runs.specs.Joining.{Frame}
use Rattle.afdx_command_conform.specs.Beginning.{AreLinesBefore, ComeFrom, IsEndFrom}
use Rattle.afdx_command_conform.specs.Choices.{Choices}
use Rattle.afdx_command_conform.specs.Lines.{AreLines, Due}
use Rattle.afdx_command_conform.specs.RunLaws.{AreByTime}

-- Of all these lines the first are those of moments before a time, by these frames and this end
-- alone; the others have moments from that time on.
pub record BeginWith (t : Rows) (c : Choices) (end time : ℕ) (frames : List Frame)
    (lines : List Due) : Type 0 where
  pub early : List Due
  pub later : List Due
  pub parts : lines ≡ later ++ early
  pub are_early : AreLinesBefore t c end frames time early
  pub are_later : AllByRecursion (λ d. time ≤ d.moment) later

-- Frames go by time, and more come from a time on: so all lines begin, whatever comes, whenever the
-- recordings end, and whatever end is taken for the frames before that time.
abbrev pub LinesBeginEarly : Type 0
LinesBeginEarly =
    (t : Rows) (c : Choices) (until end time : ℕ) (more frames : List Frame) (lines : List Due) →
    length t.links < 0x100000000 →
    AreByTime frames →
    ComeFrom time more →
    IsEndFrom c.until time until →
    IsEndFrom c.until time end →
    AreLines t c until (more ++ frames) lines →
    BeginWith t c end time frames lines
