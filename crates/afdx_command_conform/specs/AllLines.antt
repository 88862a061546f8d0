-- What a run over a switch writes of the frames of both roles: all lines, those of moments before
-- the time of the newest frame, the first ones. Lists of frames have the newest first, those of
-- lines the oldest.
use Rattle.std.specs.Prelude.{◌≡◌, ◌⊎◌, List}
use Rattle.afdx_config.specs.Rows.{Rows}
use Rattle.afdx_input_runs.specs.Joining.{Frame}
use Rattle.afdx_text.specs.declared.conform_line.Conclusion.{Conclusion}
use Rattle.afdx_text.specs.declared.conform_line.ConformLine.{ConformLine}
use Rattle.afdx_command_conform.specs.Beginning.{AreBegun, AreEarly, AreFirstLines}
use Rattle.afdx_command_conform.specs.Choices.{Choices, latest_of, until_or}
use Rattle.afdx_command_conform.specs.Counting.{totals_of}
use Rattle.afdx_command_conform.specs.Lines.{AreLines, Due, lines_of}
use Rattle.afdx_command_conform.specs.RunLaws.{AreByTime}
use Rattle.afdx_command_conform.specs.Totals.{concluded}

module _ (k : Rows × Choices) (frames : List Frame) where
  -- all, where no more frames come, and that is the answer; they go by time
  pub record AreAllLines (lines : List ConformLine) (last : Conclusion) : Type 0 where
    pub dues : List Due
    pub by_time : AreByTime frames
    pub are : lines ≡ lines_of dues
    pub are_lines : AreLines k.0 k.1 (until_or k.1.until frames) frames dues
    pub last_is : last ≡ concluded (totals_of k frames dues)

  -- the first of all, where no more frames come
  pub record AreFirstOfAll (lines : List ConformLine) : Type 0 where
    pub dues : List Due
    pub are : lines ≡ lines_of dues
    pub are_first : AreFirstLines k.0 k.1 (until_or k.1.until frames) frames dues

  -- whatever else comes and whenever the recordings end: exactly those of moments before the time
  -- of the newest frame
  abbrev pub AreEarlyLines : List ConformLine → Type 0
  AreEarlyLines lines = AreEarly k (latest_of frames) frames lines

  -- the first, whatever else comes and whenever the recordings end; or where no more comes
  abbrev pub AreSomeLines : List ConformLine → Type 0
  AreSomeLines lines = AreBegun k (latest_of frames) frames lines ⊎ AreFirstOfAll lines
