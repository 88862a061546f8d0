-- What a receiver keeps of the frames of one link that came.
use Rattle.std.specs.Prelude.{◌≡◌, ℕ, Option, Some, List, option_map}
use Rattle.afdx_frame.specs.declared.link.Side.{Side}
use Rattle.afdx_frame.specs.BySide.{on, with_on}
use Rattle.afdx_receive.specs.Integrity.{Incoming, previous}
use Rattle.afdx_receive.specs.Redundancy.{newest, winners}
use Rattle.afdx_receive.specs.declared.memory.LinkMemory.{LinkMemory}

abbrev pub sequence_number_of : Incoming → ℕ
sequence_number_of frame = frame.number

-- the number of a winner, and when it came
pub record Stamp : Type 0 where
  pub number : ℕ
  pub time : ℕ

abbrev pub stamp_with : ℕ → ℕ → Stamp
stamp_with time number = record { number = number; time = time }

abbrev pub stamp_of : Incoming → Stamp
stamp_of frame = record { number = frame.number; time = frame.time }

abbrev pub last_winner : LinkMemory → Option Stamp
last_winner memory = option_map (stamp_with memory.won) memory.winner

-- the number that is kept for a side
abbrev pub kept_number : LinkMemory → Side → Option ℕ
kept_number memory side = on side memory.previous

abbrev pub with_number : LinkMemory → Side → ℕ → LinkMemory
with_number memory side number =
    record memory { previous = with_on side memory.previous (Some number) }

-- it keeps the last number of each side, and the last winner, of those that came
pub record Remembers (memory : LinkMemory) (came : List Incoming) : Type 0 where
  pub numbers : (side : Side) →
      kept_number memory side ≡ option_map sequence_number_of (previous side came)
  pub winner : last_winner memory ≡ option_map stamp_of (newest (winners memory.skew_ns came))
