-- What is found of a lawful stream on two networks, as it was recorded from a start up to an end.
-- Lists of what came have the newest first, streams the oldest.
use Rattle.std.specs.Prelude.{◌≡◌, ℕ, ◌+◌, ◌<◌, ◌≤◌, Some, List, [], ◌∷◌, length, map, slice_get}
use Rattle.afdx_frame.specs.declared.link.Side.{Side}
use Rattle.afdx_config.specs.LawfulStream.{IsLawfulStream, Sending}
use Rattle.afdx_config.specs.Rows.{LinkRow, SystemRow}
use Rattle.afdx_config.specs.SentList.{Message}
use Rattle.afdx_lawful.specs.Accepted.{ComeUpTo}
use Rattle.afdx_lawful.specs.RightTwice.{IsBefore, IsInRange, NothingIsFound}
use Rattle.afdx_lawful.specs.Sources.{Came, Source, apart_by, on_side}
use Rattle.afdx_lawful.specs.TwoNetworks.{IsLawfulTwice, SentTwice, at_once, frame_on, time_on}

-- a source is this link of this system
pub record IsSourceOf (s : SystemRow) (l : LinkRow) (source : Source) : Type 0 where
  pub link : source.rule.vl ≡ l.vl
  pub bag : source.rule.bag_ms ≡ l.bag_ms
  pub jitter : source.rule.jitter_us ≡ l.jitter_us
  pub least : source.rule.lmin ≡ l.lmin
  pub most : source.rule.lmax ≡ l.lmax
  pub system : source.system ≡ s.id

-- what came is the frame of this stream on this network: at its very time, and byte for byte
pub record IsSeenAs (side : Side) (y : SentTwice) (x : Came) : Type 0 where
  pub on : x.side ≡ side
  pub time : x.time ≡ time_on side y
  pub bytes : x.bytes ≡ frame_on side y

-- it stands at this place of the stream
pub record IsSeenAt (side : Side) (stream : List SentTwice) (k : ℕ) (x : Came) : Type 0 where
  pub sent : SentTwice
  pub there : slice_get stream k ≡ Some sent
  pub seen : IsSeenAs side sent x

-- these came one after the other, from this place on
abbrev pub AreSeenFrom : Side → List SentTwice → ℕ → List Came → Type 0
AreSeenFrom side stream first [] = Unit {0}
AreSeenFrom side stream first (x ∷ past) =
    IsSeenAt side stream (first + length past) x × AreSeenFrom side stream first past

-- On a side the frames of a stream were recorded that were sent from the start up to the end, and
-- no others.
pub record IsRecordedOn (source : Source) (stream : List SentTwice) (xs : List Came)
    (side : Side) : Type 0 where
  pub first : ℕ
  pub within : first + length (on_side side xs) ≤ length stream
  pub seen : AreSeenFrom side stream first (on_side side xs)
  pub before : (k : ℕ) (y : SentTwice) →
      k < first →
      slice_get stream k ≡ Some y →
      IsBefore source.by.start (time_on side y)
  pub behind : (k : ℕ) (y : SentTwice) →
      first + length (on_side side xs) ≤ k →
      slice_get stream k ≡ Some y →
      source.until < time_on side y

-- Nothing is found of a source where a stream exists that is lawful on two networks, and of which
-- its frames are what was recorded. Its copies are sent no further apart than they may be.
abbrev pub LawfulIsNeverAccused : Type 0
LawfulIsNeverAccused =
    (source : Source) (s : SystemRow) (l : LinkRow) (apart : ℕ → ℕ) (messages : List Message)
    (stream : List SentTwice) (xs : List Came) →
    IsInRange source →
    IsSourceOf s l source →
    ((bytes : ℕ) → apart bytes ≤ apart_by source source.given bytes) →
    IsLawfulTwice s l apart messages stream →
    ComeUpTo source.until xs →
    ((side : Side) → IsRecordedOn source stream xs side) →
    NothingIsFound source xs

-- So it is of frames that are built, released a gap apart, and given to both networks at one time.
abbrev pub BuiltIsNeverAccused : Type 0
BuiltIsNeverAccused =
    (source : Source) (s : SystemRow) (l : LinkRow) (messages : List Message)
    (stream : List Sending) (xs : List Came) →
    IsInRange source →
    IsSourceOf s l source →
    IsLawfulStream s l messages stream →
    ComeUpTo source.until xs →
    ((side : Side) → IsRecordedOn source (map at_once stream) xs side) →
    NothingIsFound source xs
