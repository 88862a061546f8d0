-- How much of its lines a run has written, whatever it judges.
use Rattle.std.specs.Prelude.{ℕ, List, ◌++◌, Option}
use Rattle.std.specs.Io.KnownBytes.{Appends}
use Rattle.afdx_input_lines.specs.Calls.{AppendsFront}
use Rattle.afdx_text.specs.ConformLines.{conform_text}
use Rattle.afdx_text.specs.declared.conform_line.Conclusion.{Conclusion}
use Rattle.afdx_text.specs.declared.conform_line.ConformLine.{ConformLine}
use Rattle.afdx_text.specs.declared.conform_line.ConformLine.TheVariants.{Judged}
use Rattle.afdx_command_conform.specs.Telling.{lines_text}

-- the text of lines and, behind them, of the last one, which has the answer and what is counted
abbrev pub whole_text : List ConformLine → Conclusion → List ℕ
whole_text lines last = lines_text lines ++ conform_text (Judged last)

-- the output held `old` and holds `new`
module _ (old new : Option (List ℕ)) where
  -- lines of which this is so
  pub record Writes (are : List ConformLine → Type 0) : Type 0 where
    pub lines : List ConformLine
    pub are_so : are lines
    pub written : Appends old new (lines_text lines)

  -- a beginning of such lines
  pub record Begins (are : List ConformLine → Type 0) : Type 0 where
    pub lines : List ConformLine
    pub are_so : are lines
    pub begun : AppendsFront old new (lines_text lines)

  -- lines of which this is so with that answer, but not yet the last one
  abbrev pub WritesLines : (are : List ConformLine → Conclusion → Type 0) → Conclusion → Type 0
  WritesLines are last = Writes (λ lines. are lines last)

  -- and the last one
  pub record WritesWhole (are : List ConformLine → Conclusion → Type 0) (last : Conclusion) :
      Type 0 where
    pub lines : List ConformLine
    pub are_so : are lines last
    pub written : Appends old new (whole_text lines last)

  -- a beginning of that, or all
  pub record BeginsWhole (are : List ConformLine → Conclusion → Type 0) : Type 0 where
    pub lines : List ConformLine
    pub last : Conclusion
    pub are_so : are lines last
    pub begun : AppendsFront old new (whole_text lines last)
