-- The lawful stream of a link as recordings of both networks show it: each network sends at times
-- of its own, no moment of release is named, and frames are read, not built.
use Rattle.std.specs.Prelude.{◌≡◌, ℕ, ◌+◌, ◌*◌, ◌≤◌, Some, List, length, map, slice_get}
use Rattle.afdx_frame.specs.Grammar.{Read}
use Rattle.afdx_frame.specs.Regulation.{bag, jitter}
use Rattle.afdx_frame.specs.Sealing.{AreBytes}
use Rattle.afdx_frame.specs.declared.link.Side.{Side}
use Rattle.afdx_frame.specs.declared.link.Side.TheVariants.{A, B}
use Rattle.afdx_config.specs.Flows.{regulation_of_link}
use Rattle.afdx_config.specs.Lawful.{IsWithin}
use Rattle.afdx_config.specs.LawfulStream.{IsLawfulStream, Sending}
use Rattle.afdx_config.specs.Rows.{LinkRow, SystemRow}
use Rattle.afdx_config.specs.SentList.{Message, Sent, sent_at}
use Rattle.afdx_lawful.specs.Flaws.{address_in, address_of, common}

-- a message that was sent on both networks: when, in ns, and its frame there
pub record SentTwice : Type 0 where
  pub on_a : ℕ
  pub on_b : ℕ
  pub a : List ℕ
  pub b : List ℕ

abbrev pub time_on : Side → SentTwice → ℕ
time_on A y = y.on_a
time_on B y = y.on_b

abbrev pub frame_on : Side → SentTwice → List ℕ
frame_on A y = y.a
frame_on B y = y.b

-- the frame is read as this message under its number, comes from its system's address on the
-- network, and has a length of its link
pub record IsReadAs (s : SystemRow) (l : LinkRow) (side : Side) (x : Sent) (frame : List ℕ)
    : Type 0 where
  pub from_port : ℕ
  pub bytes : AreBytes frame
  pub reads : Read frame l.vl from_port x.message.udp x.message.payload x.number
  pub address : address_in frame ≡ address_of s.id side
  pub fits : IsWithin l.lmin l.lmax (length frame)

-- both frames are the same but for the byte of the network and the check sequence, and are sent at
-- most so many ns apart
pub record AreCopies (apart : ℕ) (y : SentTwice) : Type 0 where
  pub same : common y.a ≡ common y.b
  pub a_soon : y.on_a ≤ y.on_b + apart
  pub b_soon : y.on_b ≤ y.on_a + apart

-- On each network each frame is sent as many gaps behind any before it as stand between, but for
-- the jitter. The k-th frame carries the k-th message on both, under the number to which k steps
-- lead from 0, and its copies are sent at most so many ns apart, by their length.
pub record IsLawfulTwice (s : SystemRow) (l : LinkRow) (apart : ℕ → ℕ) (messages : List Message)
    (stream : List SentTwice) : Type 0 where
  pub count : length messages ≡ length stream
  pub spaced : (side : Side) (j d : ℕ) (y z : SentTwice) →
      slice_get stream j ≡ Some y →
      slice_get stream (j + d) ≡ Some z →
      time_on side y + bag (regulation_of_link l) * d
      ≤ time_on side z + jitter (regulation_of_link l)
  pub read : (side : Side) (k : ℕ) (x : Sent) (y : SentTwice) →
      sent_at messages k ≡ Some x →
      slice_get stream k ≡ Some y →
      IsReadAs s l side x (frame_on side y)
  pub copies : (k : ℕ) (y : SentTwice) →
      slice_get stream k ≡ Some y →
      AreCopies (apart (length y.a)) y

-- what is given to both networks at one time
abbrev pub at_once : Sending → SentTwice
at_once y = record { on_a = y.time; on_b = y.time; a = y.a; b = y.b }

-- a stream of frames that are built, released a gap apart and given to both networks at one time
-- is such a stream
abbrev pub BuiltIsLawfulTwice : Type 0
BuiltIsLawfulTwice =
    (s : SystemRow) (l : LinkRow) (messages : List Message) (stream : List Sending) →
    IsLawfulStream s l messages stream →
    IsLawfulTwice s l (λ bytes. 0) messages (map at_once stream)
