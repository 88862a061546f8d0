-- The lawful stream of a link: what its sender gives to both networks.
use Rattle.std.specs.Prelude.{◌≡◌, ℕ, ◌+◌, ◌≤◌, List, length, slice_get, Some}
use Rattle.afdx_frame.specs.declared.link.Side.{Side}
use Rattle.afdx_frame.specs.declared.link.Side.TheVariants.{A, B}
use Rattle.afdx_frame.specs.Grammar.{Built}
use Rattle.afdx_frame.specs.Regulation.{bag, jitter}
use Rattle.afdx_config.specs.Rows.{SystemRow, LinkRow}
use Rattle.afdx_config.specs.Flows.{regulation_of_link}
use Rattle.afdx_config.specs.Lawful.{IsWithin}
use Rattle.afdx_config.specs.SentList.{Message, Sent, sent_at, address_of, AreSendable}

-- a frame that was sent: the moment, in ns, and its bytes on each network
pub record Sending : Type 0 where
  pub time : ℕ
  pub a : List ℕ
  pub b : List ℕ

-- the frame of a sending on a network
abbrev pub copy_on : Side → Sending → List ℕ
copy_on A sending = sending.a
copy_on B sending = sending.b

-- the two frames are built of one message of the sent list, and of a length that the link may have
pub record IsSent (s : SystemRow) (l : LinkRow) (x : Sent) (y : Sending) : Type 0 where
  pub a : Built (address_of s l x.message) x.number A x.message.payload y.a
  pub b : Built (address_of s l x.message) x.number B x.message.payload y.b
  pub a_length : IsWithin l.lmin l.lmax (length y.a)
  pub b_length : IsWithin l.lmin l.lmax (length y.b)

-- There are moments, each a gap or more after the one before. The k-th frame is sent at or after
-- the k-th moment, at most the link's jitter later, and carries the k-th message of the sent list,
-- each of which can be built.
pub record IsLawfulStream (s : SystemRow) (l : LinkRow) (messages : List Message)
    (stream : List Sending) : Type 0 where
  pub moments : List ℕ
  pub moment_count : length moments ≡ length stream
  pub message_count : length messages ≡ length stream
  pub sendable : AreSendable s l messages
  pub apart : (k r later : ℕ) →
      slice_get moments k ≡ Some r →
      slice_get moments (k + 1) ≡ Some later →
      r + bag (regulation_of_link l) ≤ later
  pub shaped : (k r : ℕ) (y : Sending) →
      slice_get moments k ≡ Some r →
      slice_get stream k ≡ Some y →
      (r ≤ y.time) × (y.time ≤ r + jitter (regulation_of_link l))
  pub sent : (k : ℕ) (x : Sent) (y : Sending) →
      sent_at messages k ≡ Some x →
      slice_get stream k ≡ Some y →
      IsSent s l x y
