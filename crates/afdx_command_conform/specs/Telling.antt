-- Lines that are told. A list of them has the oldest first.
use Rattle.std.specs.Prelude.{ℕ, ◌+◌, Bool, true, false, List, [], ◌∷◌, ◌++◌}
use Rattle.afdx_text.specs.ConformLines.{conform_text}
use Rattle.afdx_text.specs.declared.conform_line.ConformLine.{ConformLine}
use Rattle.afdx_text.specs.declared.conform_line.ConformLine.TheVariants.{Found, Unsure, Judged}
use Rattle.afdx_text.specs.declared.conform_line.ConformLine.TheVariants.{Sender, Sourceless}

-- it says what the switch did wrong, or a system as a sender
abbrev pub is_finding : ConformLine → Bool
is_finding (Found side port finding) = true
is_finding (Unsure n side port) = false
is_finding (Sender side port finding) = true
is_finding (Sourceless n side port why) = true
is_finding (Judged conclusion) = false

abbrev pub one_if : Bool → ℕ
one_if true = 1
one_if false = 0

-- how many of them do
unfoldable pub findings_in : List ConformLine → ℕ
findings_in [] = 0
findings_in (line ∷ more) = one_if (is_finding line) + findings_in more

-- their text
unfoldable pub lines_text : List ConformLine → List ℕ
lines_text [] = []
lines_text (line ∷ more) = conform_text line ++ lines_text more

-- the greatest count
abbrev pub most_counted : ℕ
most_counted = 0xffffffffffffffff
