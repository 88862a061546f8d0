-- An example: of two messages the copies are sent as far apart as the way leaves them, or a
-- nanosecond further.
use Rattle.std.specs.Prelude.{◌≡◌, ℕ, ◌+◌, Bool, nat_eq, List, [], ◌∷◌, filter, reverse}
use Rattle.afdx_frame.specs.Sides.{is_side}
use Rattle.afdx_frame.specs.declared.link.Side.{Side}
use Rattle.afdx_frame.specs.declared.link.Side.TheVariants.{A, B}
use Rattle.afdx_config.specs.SentList.{Message}
use Rattle.afdx_receive.specs.CopiesApart.{SentApart, AreFirstFrames, AreNear, AreQuick, AreSpaced}
use Rattle.afdx_receive.specs.CopiesApart.{ComeByTime}
use Rattle.afdx_receive.specs.Delivery.{delivered}
use Rattle.afdx_receive.specs.Integrity.{Incoming}
use Rattle.afdx_lawful.specs.Worked.{a0, a1, b0, b1}

-- the message of each frame
abbrev pub hello : Message
hello = record { udp = 1000; payload = 104 ∷ 101 ∷ 108 ∷ 108 ∷ 111 ∷ [] }

-- a frame that is sent on B so much later than on A; 64 bytes take 5,760 ns on the wire
abbrev pub sent_at : ℕ → ℕ → SentApart
sent_at time later = record { on_a = time; on_b = time + later; least = 5760 }

abbrev pub stream : ℕ → List SentApart
stream later = sent_at 0 later ∷ sent_at 1000000 later ∷ []

-- a frame of link 1 that came
abbrev pub came_at : ℕ → Side → ℕ → List ℕ → Incoming
came_at time side number bytes =
    record { time = time; side = side; vl = 1; number = number; bytes = bytes }

-- those of A come as soon as they can, those of B as late as they may: 17 us after they were sent
abbrev pub first_came : ℕ → List Incoming
first_came later = came_at (later + 17000) B 0 b0 ∷ came_at 5760 A 0 a0 ∷ []

abbrev pub both_came : ℕ → List Incoming
both_came later =
    came_at (1000000 + later + 17000) B 1 b1 ∷ came_at (later + 17000) B 0 b0
    ∷ came_at 1005760 A 1 a1 ∷ came_at 5760 A 0 a0 ∷ []

abbrev pub is_open : ℕ → Bool
is_open udp = nat_eq udp 1000

-- what is read there, in order, where the skew is a millisecond
abbrev pub read : List Incoming → List Message
read came = reverse (delivered 1000000 is_open came)

-- the frames are spaced, take no longer than their way lets them, and are the first of the stream
-- on each side, by time
pub record AreSent (later : ℕ) (messages : List Message) (sent : List SentApart)
    (came : List Incoming) : Type 0 where
  pub spaced : AreSpaced 1000000 500000 sent
  pub quick : AreQuick 24000000 sent
  pub sides : (side : Side) →
      AreFirstFrames 17000 messages sent (filter (λ f. is_side f.side side) came)
  pub by_time : ComeByTime came

-- As far apart as the way leaves them, each message is read once: all is met that is asked. A
-- nanosecond further the first is read twice, though all else is met.
pub record NearnessIsNeeded : Type 0 where
  pub met : AreSent 988760 (hello ∷ hello ∷ []) (stream 988760) (both_came 988760)
  pub near : AreNear 17000 1000000 (stream 988760)
  pub once : read (both_came 988760) ≡ hello ∷ hello ∷ []
  pub further : AreSent 988761 (hello ∷ []) (sent_at 0 988761 ∷ []) (first_came 988761)
  pub twice : read (first_came 988761) ≡ hello ∷ hello ∷ []
