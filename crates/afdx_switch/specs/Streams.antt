-- The arrivals that a link's lawful stream makes at a switch. A list of arrivals has the newest
-- first.
use Rattle.std.specs.Prelude.{◌≡◌, ℕ, None, Some, true, List, [], ◌∷◌, length, slice_get}
use Rattle.afdx_frame.specs.declared.link.Side.{Side}
use Rattle.afdx_config.specs.Lawful.{IsLawfulSwitch}
use Rattle.afdx_config.specs.LawfulStream.{Sending, IsLawfulStream, copy_on}
use Rattle.afdx_config.specs.Rows.{SystemRow, LinkRow, Rows}
use Rattle.afdx_config.specs.SentList.{Message}
use Rattle.afdx_police.specs.Arrival.{Arrival, names, own}
use Rattle.afdx_switch.specs.Regular.{IsRegularAt, at_port}
use Rattle.afdx_switch.specs.Tables.{rule_of}
use Rattle.afdx_switch.specs.Verdicts.{reason_of}

-- the arrivals on a side that name a link and come at its sender's port
abbrev pub at_own_port : Rows → LinkRow → Side → List Arrival → List Arrival
at_own_port t l side arrivals = at_port (rule_of t l) (own l.vl side arrivals)

-- an arrival is the frame that was sent at a place of a stream, when it was sent
pub record IsFrameAt (side : Side) (stream : List Sending) (place : ℕ) (x : Arrival) : Type 0 where
  pub sending : Sending
  pub at_place : slice_get stream place ≡ Some sending
  pub time : x.time ≡ sending.time
  pub bytes : x.bytes ≡ copy_on side sending

-- the arrivals are the first frames of a stream, in order and with none left out
abbrev pub AreFirstOf : Side → List Sending → List Arrival → Type 0
AreFirstOf side stream [] = Unit {0}
AreFirstOf side stream (x ∷ past) = IsFrameAt side stream (length past) x
    × AreFirstOf side stream past

-- on a side all that names the link and comes at its sender's port is this stream, whole
pub record IsFed (t : Rows) (l : LinkRow) (stream : List Sending) (side : Side)
    (arrivals : List Arrival) : Type 0 where
  pub frames : AreFirstOf side stream (at_own_port t l side arrivals)
  pub whole : length (at_own_port t l side arrivals) ≡ length stream

-- a lawful stream of a link, with these messages
pub record IsStreamOf (t : Rows) (l : LinkRow) (messages : List Message)
    (stream : List Sending) : Type 0 where
  pub sender : SystemRow
  pub stands : slice_get t.systems l.from ≡ Some sender
  pub lawful : IsLawfulStream sender l messages stream

-- where it comes to its sender's port, the link's own arrivals there keep the link's gap
abbrev pub StreamIsRegular : Type 0
StreamIsRegular = (t : Rows) (arrivals : List Arrival) (side : Side) (l : LinkRow)
    (messages : List Message) (stream : List Sending) →
    IsStreamOf t l messages stream →
    AreFirstOf side stream (at_own_port t l side arrivals) →
    IsRegularAt (rule_of t l) (own l.vl side arrivals)

-- and it is accepted, whatever else comes, also under this link's name at other ports
abbrev pub StreamIsAccepted : Type 0
StreamIsAccepted = (t : Rows) (past : List Arrival) (x : Arrival) (place : ℕ) (l : LinkRow)
    (messages : List Message) (stream : List Sending) →
    IsLawfulSwitch t →
    slice_get t.links place ≡ Some l →
    IsStreamOf t l messages stream →
    names l.vl x.bytes ≡ true →
    (rule_of t l).port ≡ x.port →
    AreFirstOf x.side stream (at_own_port t l x.side (x ∷ past)) →
    reason_of t past x ≡ None

-- an arrival is the link's at its sender's port, and all that came there on its side are, with this
-- one, the first frames of a lawful stream of the link
pub record IsNextOfStream (t : Rows) (l : LinkRow) (past : List Arrival)
    (x : Arrival) : Type 0 where
  pub messages : List Message
  pub stream : List Sending
  pub is : IsStreamOf t l messages stream
  pub named : names l.vl x.bytes ≡ true
  pub here : (rule_of t l).port ≡ x.port
  pub first : AreFirstOf x.side stream (at_own_port t l x.side (x ∷ past))
