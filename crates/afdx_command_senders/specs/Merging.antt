-- What is told at once of a switch and of the systems that send to it, by rank. Lists have the
-- oldest first.
use Rattle.std.specs.Prelude.{ℕ, ◌≡◌, ◌+◌, Bool, false, min, nat_lt, if◌then◌else◌, List, [], ◌∷◌, ◌++◌, map, Option}
use Rattle.std.specs.Io.KnownBytes.{Appends}
use Rattle.afdx_senders.specs.Lines.{Line}
use Rattle.afdx_senders.specs.declared.sender_line.SenderLine.{SenderLine}
use Rattle.afdx_text.specs.declared.conform_line.ConformLine.{ConformLine}
use Rattle.afdx_command_conform.specs.Lines.{Due}
use Rattle.afdx_command_conform.specs.Telling.{findings_in, lines_text, most_counted}
use Rattle.afdx_command_senders.specs.BothTold.{OfSender, OfSwitch, Told, lines_by, rank}
use Rattle.afdx_command_senders.specs.SenderRun.{told_in}
use Rattle.afdx_command_senders.specs.SenderTexts.{told_lines}

-- a line of the switch comes before what is found of a system's frame
abbrev pub comes_before : Due → Line → Bool
comes_before d x = nat_lt (rank (OfSwitch d)) (rank (OfSender x))

-- of the switch's lines the first, which come before it; and the others
unfoldable pub sooner : Line → List Due → List Due
sooner x [] = []
sooner x (d ∷ later) = if comes_before d x then d ∷ sooner x later else []

unfoldable pub not_sooner : Line → List Due → List Due
not_sooner x [] = []
not_sooner x (d ∷ later) = if comes_before d x then not_sooner x later else d ∷ later

-- both
unfoldable pub merged : List Line → List Due → List Told
merged [] dues = map OfSwitch dues
merged (x ∷ later) dues =
    map OfSwitch (sooner x dues) ++ (OfSender x ∷ merged later (not_sooner x dues))

-- their lines
unfoldable pub lines_up : List Told → List ConformLine
lines_up [] = []
lines_up (x ∷ later) = lines_by x ++ lines_up later

-- no line of the switch comes before it
abbrev pub IsNoneBefore : Line → List Due → Type 0
IsNoneBefore x [] = Unit {0}
IsNoneBefore x (d ∷ later) = comes_before d x ≡ false

-- of all these lines the first are written, and those of the others are the rest
pub record IsToldTo (start now : Option (List ℕ)) (xs : List Line) (dues : List Due)
    (all : List ConformLine) : Type 0 where
  pub done : List ConformLine
  pub written : Appends start now (lines_text done)
  pub rest : done ++ lines_up (merged xs dues) ≡ all

-- of so many findings these are counted, and those of the others are the rest
pub record AreCountedTo (old now : ℕ) (lines : List SenderLine) (all : ℕ) : Type 0 where
  pub done : ℕ
  pub counted : (n : ℕ) → old ≡ min n most_counted → now ≡ min (n + done) most_counted
  pub rest : done + findings_in (told_lines (told_in lines)) ≡ all
