-- The sent list of a link: its messages in the order in which it releases them.
use Rattle.std.specs.Prelude.{◌≡◌, ℕ, List, Option, Some, slice_get}
use Rattle.std.specs.Option.{option_map}
use Rattle.afdx_frame.specs.declared.builder.Address.{Address}
use Rattle.afdx_frame.specs.Grammar.{Buildable}
use Rattle.afdx_frame.specs.Sealing.{AreBytes}
use Rattle.afdx_config.specs.Numbers.{after_steps}
use Rattle.afdx_config.specs.Rows.{SystemRow, LinkRow}

-- a payload, and the UDP port that it goes to
pub record Message : Type 0 where
  pub udp : ℕ
  pub payload : List ℕ

-- a message under its sequence number
pub record Sent : Type 0 where
  pub message : Message
  pub number : ℕ

-- the k-th message, counted from 0, has the number to which k steps lead from 0
abbrev pub sent_at : List Message → ℕ → Option Sent
sent_at messages k =
    option_map (λ m. record { message = m; number = after_steps k 0 }) (slice_get messages k)

-- where the builder takes a link's frames from and to: both UDP ports are the message's
abbrev pub address_of : SystemRow → LinkRow → Message → Address
address_of s l m = record {
  vl = record { 0 = l.vl };
  system_id = s.id;
  partition = s.partition;
  from_udp = m.udp;
  to_udp = m.udp;
  least = l.lmin;
}

-- the builder takes the message for this link of this system: so what it builds is read as this
-- message
pub record CanBeSent (s : SystemRow) (l : LinkRow) (m : Message) : Type 0 where
  pub buildable : Buildable (address_of s l m) m.payload
  pub bytes : AreBytes m.payload

-- a link can have these messages for its sent list: each of them can be built
abbrev pub AreSendable : SystemRow → LinkRow → List Message → Type 0
AreSendable s l messages =
    (place : ℕ) (m : Message) → slice_get messages place ≡ Some m → CanBeSent s l m
