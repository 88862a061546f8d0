-- The text of the frame list that says the same as a recording.
use Rattle.std.specs.Prelude.{ℕ, List, [], ◌∷◌, ◌++◌, Result, slice_get}
use Rattle.std.specs.Option.{option_map_or}
use Rattle.afdx_config.specs.Switches.{NamedRows}
use Rattle.afdx_config.specs.declared.describing.Described.{Described}
use Rattle.afdx_config.specs.declared.describing.Described.TheVariants.{One, Several}
use Rattle.std.specs.Io.KnownBytes.{Appends}
use Rattle.afdx_input_lines.specs.declared.fault.RunFault.{RunFault}
use Rattle.afdx_input_lines.specs.Calls.{AppendsFront}
use Rattle.afdx_input_sources.specs.Engine.{Bytes, Item}
use Rattle.afdx_text.specs.OutLines.{frame_line, place_text, remark_line}
use Rattle.afdx_input_sources.specs.declared.number_line.NumberLine.{NumberLine}
use Rattle.afdx_input_sources.specs.declared.number_line.NumberLine.TheVariants.{Arrival, Skipped}
use Rattle.afdx_input_sources.specs.declared.counts.Tally.{Tally}
use Rattle.afdx_input_sources.specs.NumberLines.{Lines}
use Rattle.afdx_input_runs.specs.Arrivals.{TookAndTold}
use Rattle.afdx_input_sources.specs.Words.{skipped_word}

-- the name of the switch of a number
unfoldable pub switch_name : List NamedRows → ℕ → List ℕ
switch_name switches k = option_map_or (λ s. s.name) (slice_get switches k) []

-- the same in a configuration; empty where there is one on a side
abbrev pub name_in : Described → ℕ → List ℕ
name_in (One t) k = []
name_in (Several switches) k = switch_name switches k

module _ (d : Described) where
  -- the line of number n of a recording, with its recorded bytes; one that is skipped is named
  abbrev pub number_text : (n : ℕ) → NumberLine → List ℕ → List ℕ
  number_text n (Arrival kind time role side switch port) bytes =
      frame_line kind (place_text side (name_in d switch)) port time bytes
  number_text n (Skipped reason) bytes = remark_line (skipped_word reason) n

  -- all lines; the latest stands first in the list of them, and last in the text
  unfoldable pub list_text : List (Item NumberLine) → List ℕ
  list_text [] = []
  list_text (x ∷ past) = list_text past ++ number_text x.number x.head x.bytes

  -- the output, which held `old`, now holds these lines after it
  abbrev pub WritesLines : Bytes → Bytes → List (Item NumberLine) → Type 0
  WritesLines old new past = Appends old new (list_text past)

  -- or a beginning of them
  abbrev pub WritesSomeLines : Bytes → Bytes → List (Item NumberLine) → Type 0
  WritesSomeLines old new past = AppendsFront old new (list_text past)

-- ---- what a run answers that writes the lines of a recording, or of two

abbrev pub lines_themselves : Lines → Lines
lines_themselves lines = lines

-- With this answer it has taken some lines. The output, which held `old`, now holds them after it;
-- after a failed write, or want of memory, it holds them or a beginning of them.
abbrev pub Lists : Described → (takes : Lines → Result Tally RunFault → Type 0) →
    (old new : Bytes) → Result Tally RunFault → Type 0
Lists d takes old new answer =
    TookAndTold takes answer (WritesLines d old new) (WritesLines d old new)
    (WritesSomeLines d old new)
