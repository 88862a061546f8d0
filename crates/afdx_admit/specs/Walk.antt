-- A walk over lines that takes the faults of those that are false, and may stop.
use Rattle.std.specs.Prelude.{◌≡◌, List, ◌++◌, Result, Ok, Err}
use Rattle.afdx_frame.specs.Lines.{Line, false_lines}

-- Ok: the faults of the lines that are false were added; Err: it stopped among these lines, with an
-- answer that is right whatever faults are behind them
abbrev pub Walks :
    {F E A : Type 0} → (Stops : List F → E → Type 0) → (old new : List F) → List (Line F)
    → Result A E → Type 0
Walks Stops old new lines (Ok _) = new ≡ old ++ false_lines lines
Walks Stops old new lines (Err stop) =
    (behind : List _) → Stops (old ++ (false_lines lines ++ behind)) stop
