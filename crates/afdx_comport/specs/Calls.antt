-- What a port holds after a list of calls, the newest first, and what was taken from it.
use Rattle.std.specs.Prelude.{◌≡◌, ℕ, ◌≤◌, if◌then◌else◌, Option, Some, None, List, [], ◌∷◌, ◌++◌}
use Rattle.std.specs.Prelude.{length}
use Rattle.afdx_comport.specs.Messages.{TimedMessage}
use Rattle.afdx_comport.specs.declared.held.PortMemory.{PortMemory}
use Rattle.afdx_comport.specs.declared.held.PortMemory.TheVariants.{Sampling, Queuing}
use Rattle.afdx_comport.specs.Held.{is_full, with_message, with_spare}
use Rattle.afdx_comport.specs.Held.{first_of, sample_of, without_first}

-- a message is put, the oldest one is taken, or memory for so many bytes is given back
pub data Call : Type 0 where
  Put : TimedMessage → Call
  Take : Call
  GiveBack : ℕ → Call

-- a full port takes no message
abbrev pub with_put : TimedMessage → PortMemory → PortMemory
with_put m held = if is_full held then held else with_message m.time m.bytes held

-- what a port holds that held this at first
unfoldable pub held_after : PortMemory → List Call → PortMemory
held_after start [] = start
held_after start (Put m ∷ past) = with_put m (held_after start past)
held_after start (Take ∷ past) = without_first (held_after start past)
held_after start (GiveBack room ∷ past) = with_spare room (held_after start past)

-- the messages that the port took in, the oldest first
unfoldable pub put_in : PortMemory → List Call → List (List ℕ)
put_in start [] = []
put_in start (Put m ∷ past) =
    if is_full (held_after start past) then put_in start past else put_in start past ++ m.bytes ∷ []
put_in start (Take ∷ past) = put_in start past
put_in start (GiveBack room ∷ past) = put_in start past

-- with one more, if there is one
abbrev pub and_then : List (List ℕ) → Option (List ℕ) → List (List ℕ)
and_then before None = before
and_then before (Some message) = before ++ message ∷ []

-- the messages that were taken from it, in this order
unfoldable pub taken_from : PortMemory → List Call → List (List ℕ)
taken_from start [] = []
taken_from start (Put m ∷ past) = taken_from start past
taken_from start (Take ∷ past) = and_then (taken_from start past) (first_of (held_after start past))
taken_from start (GiveBack room ∷ past) = taken_from start past

abbrev pub waiting : PortMemory → List (List ℕ)
waiting (Sampling sample) = []
waiting (Queuing line) = line.messages

-- the message that was put last
unfoldable pub newest : List Call → Option TimedMessage
newest [] = None
newest (Put m ∷ past) = Some m
newest (Take ∷ past) = newest past
newest (GiveBack room ∷ past) = newest past

abbrev pub empty_queue : ℕ → PortMemory
empty_queue depth = Queuing (record { depth = depth; messages = []; spare = None })

-- what a queue took in is what was taken from it and then what waits, in this order: so the
-- messages leave first in, first out, each once. And no more wait than its depth
pub record IsFirstInFirstOut (depth : ℕ) (calls : List Call) : Type 0 where
  pub in_order :
      put_in (empty_queue depth) calls
      ≡ taken_from (empty_queue depth) calls ++ waiting (held_after (empty_queue depth) calls)
  pub within : length (waiting (held_after (empty_queue depth) calls)) ≤ depth

abbrev pub FirstInFirstOut : Type 0
FirstInFirstOut = (depth : ℕ) (calls : List Call) → IsFirstInFirstOut depth calls

-- a sampling port holds the message that was put last
abbrev pub NewestIsHeld : Type 0
NewestIsHeld = (calls : List Call) → sample_of (held_after (Sampling None) calls) ≡ newest calls
