-- What a port holds, and how it changes (ARINC 664 Part 7: sampling and queuing ports).
use Rattle.std.specs.Prelude.{◌≡◌, ℕ, ◌≤◌, Bool, false, nat_eq, Option, Some, None, option_map}
use Rattle.std.specs.Prelude.{List, [], ◌∷◌, ◌++◌, length, nat_le}
use Rattle.std.specs.Option.{option_map_or}
use Rattle.afdx_comport.specs.Messages.{TimedMessage}
use Rattle.afdx_comport.specs.declared.held.PortMemory.{PortMemory}
use Rattle.afdx_comport.specs.declared.held.PortMemory.TheVariants.{Sampling, Queuing}

-- a queuing port is full when it holds as many messages as its depth; a sampling port never is
abbrev pub is_full : PortMemory → Bool
is_full (Sampling sample) = false
is_full (Queuing line) = nat_eq (length line.messages) line.depth

-- one more message: the newest takes the place of the one before, or goes behind the others
abbrev pub with_message : ℕ → List ℕ → PortMemory → PortMemory
with_message time bytes (Sampling sample) = Sampling (Some (record { time = time; bytes = bytes }))
with_message time bytes (Queuing line) =
    Queuing (record line { messages = line.messages ++ bytes ∷ []; spare = None })

-- memory for so many bytes was given back
abbrev pub with_spare : ℕ → PortMemory → PortMemory
with_spare room (Sampling sample) = Sampling sample
with_spare room (Queuing line) = Queuing (record line { spare = Some room })

-- a message of so many bytes has room in it
abbrev pub is_enough : ℕ → Option ℕ → Bool
is_enough bytes spare = option_map_or (λ room. nat_le bytes room) spare false

abbrev pub has_spare : ℕ → PortMemory → Bool
has_spare bytes (Sampling sample) = false
has_spare bytes (Queuing line) = is_enough bytes line.spare

-- the newest message of a sampling port
abbrev pub sample_of : PortMemory → Option TimedMessage
sample_of (Sampling sample) = sample
sample_of (Queuing line) = None

abbrev pub first : List (List ℕ) → Option (List ℕ)
first [] = None
first (message ∷ messages) = Some message

abbrev pub rest : List (List ℕ) → List (List ℕ)
rest [] = []
rest (message ∷ messages) = messages

-- the oldest message of a queuing port, and what the port holds without it
abbrev pub first_of : PortMemory → Option (List ℕ)
first_of (Sampling sample) = None
first_of (Queuing line) = first line.messages

abbrev pub without_first : PortMemory → PortMemory
without_first (Sampling sample) = Sampling sample
without_first (Queuing line) = Queuing (record line { messages = rest line.messages })

-- what is read of a port: the sample, which stays, or the oldest of the queue, which goes
abbrev pub read_of : PortMemory → Option (List ℕ)
read_of (Sampling sample) = option_map (λ m. m.bytes) sample
read_of (Queuing line) = first line.messages

-- every message that came to it was read: a queue is empty, and takes at least one
abbrev pub IsRead : PortMemory → Type 0
IsRead (Sampling sample) = Unit {0}
IsRead (Queuing line) = (line.messages ≡ []) × (1 ≤ line.depth)
