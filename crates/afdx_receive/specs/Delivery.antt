-- What a receiver delivers of a link's frames, and of what was sent.
use Rattle.std.specs.Prelude.{◌≡◌, ℕ, Bool, max, Some, Ok, List, [], ◌∷◌, filter, reverse}
use Rattle.std.specs.Prelude.{slice_get, take}
use Rattle.afdx_frame.specs.declared.link.Side.TheVariants.{A, B}
use Rattle.afdx_frame.specs.Carried.{carried_by}
use Rattle.afdx_config.specs.SentList as sent
use Rattle.afdx_receive.specs.Integrity.{Incoming}
use Rattle.afdx_receive.specs.Answers.{Answer, Message, Dropped, answer_after}
use Rattle.afdx_receive.specs.TwoStreams.{count_of, AreTwoStreams}

-- the message of an answer, if it is one, before others
abbrev pub with_answer : Answer → List sent.Message → List sent.Message
with_answer (Message vl udp payload) before = record { udp = udp; payload = payload } ∷ before
with_answer (Dropped why) before = before

-- the messages that are delivered of a link's frames, the newest first
unfoldable pub delivered : ℕ → (ℕ → Bool) → List Incoming → List sent.Message
delivered skew is_open [] = []
delivered skew is_open (frame ∷ before) =
    with_answer (answer_after skew is_open before frame) (delivered skew is_open before)

-- a frame carries the message that was sent at this place
pub record CarriesSent (messages : List sent.Message) (place : ℕ) (frame : Incoming) : Type 0 where
  pub message : sent.Message
  pub at_place : slice_get messages place ≡ Some message
  pub from_port : ℕ
  pub carried :
      carried_by frame.bytes ≡ Ok (record {
        from_port = from_port;
        to_port = message.udp;
        payload = message.payload;
      })

-- each frame carries the message that was sent at its place in its side's stream
abbrev pub AllCarrySent : List sent.Message → List Incoming → Type 0
AllCarrySent messages [] = Unit {0}
AllCarrySent messages (frame ∷ before) =
    CarriesSent messages (count_of frame.side before) frame × AllCarrySent messages before

-- of two streams in order exactly the messages that were sent to an open UDP port are delivered,
-- each once and in order, as far as one of the sides has come
abbrev pub SentIsDeliveredOnce : Type 0
SentIsDeliveredOnce =
    (skew : ℕ) (is_open : ℕ → Bool) (messages : List sent.Message) (came : List Incoming) →
    AreTwoStreams skew came →
    AllCarrySent messages came →
    reverse (delivered skew is_open came)
    ≡ filter (λ m. is_open m.udp) (take (max (count_of A came) (count_of B came)) messages)
