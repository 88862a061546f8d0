-- What a run over a switch and the systems that send to it tells, in one order. Lists have the
-- newest first.
use Rattle.std.specs.Prelude.{ℕ, ◌≡◌, ◌≤◌, ◌+◌, ◌*◌, List, [], ◌∷◌, ◌++◌}
use Rattle.afdx_senders.specs.Lines.{Line}
use Rattle.afdx_senders.specs.Order.{side_rank}
use Rattle.afdx_text.specs.declared.conform_line.ConformLine.{ConformLine}
use Rattle.afdx_command_conform.specs.Lines.{Due}
use Rattle.afdx_command_senders.specs.SenderTexts.{lines_of}

-- what is found of a system's frame, or a line of the switch
pub data Told : Type 0 where
  OfSender : Line → Told
  OfSwitch : Due → Told

abbrev pub moment_of : Told → ℕ
moment_of (OfSender x) = x.moment
moment_of (OfSwitch d) = d.moment

-- among those of one moment: by side and port, and there what is of systems first
abbrev pub place_of : Told → ℕ
place_of (OfSender x) = (side_rank x.side * 256 + x.port) * 2
place_of (OfSwitch d) = (side_rank d.key.side * 256 + d.key.port) * 2 + 1

-- by moment first; a port is a byte
abbrev pub rank : Told → ℕ
rank x = moment_of x * 1024 + place_of x

abbrev pub last_rank : List Told → ℕ
last_rank [] = 0
last_rank (x ∷ past) = rank x

-- each comes no sooner than those before it
unfoldable pub AreInOrder : List Told → Type 0
AreInOrder [] = Unit {0}
AreInOrder (x ∷ past) = (last_rank past ≤ rank x) × AreInOrder past

-- of all that is told what is of systems, and what is of the switch
unfoldable pub senders_of : List Told → List Line
senders_of [] = []
senders_of (OfSender x ∷ past) = x ∷ senders_of past
senders_of (OfSwitch d ∷ past) = senders_of past

unfoldable pub switch_of : List Told → List Due
switch_of [] = []
switch_of (OfSender x ∷ past) = switch_of past
switch_of (OfSwitch d ∷ past) = d ∷ switch_of past

-- these of systems and those of the switch are all, each in its own order, and go by rank
pub record AreJoined (told : List Line) (dues : List Due) (all : List Told) : Type 0 where
  pub senders : senders_of all ≡ told
  pub switch : switch_of all ≡ dues
  pub in_order : AreInOrder all

-- its lines
abbrev pub lines_by : Told → List ConformLine
lines_by (OfSender x) = lines_of x
lines_by (OfSwitch d) = d.line ∷ []

-- those of all that is told; the oldest line is the first
unfoldable pub both_lines : List Told → List ConformLine
both_lines [] = []
both_lines (x ∷ past) = both_lines past ++ lines_by x

-- of two parts there is one list of all
abbrev pub JoinedIsOne : Type 0
JoinedIsOne = (told : List Line) (dues : List Due) (all others : List Told) →
    AreJoined told dues all → AreJoined told dues others → all ≡ others
