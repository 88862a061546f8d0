-- Exactly of what a lawful stream on two networks shows nothing is found, where stamps and clocks
-- are exact, and its system was reset before. Lists of what came have the newest first, streams the
-- oldest.
use Rattle.std.specs.Prelude.{◌≡◌, ◌↔◌, ℕ, true, None, List}
use Rattle.std.specs.List.{AllByRecursion}
use Rattle.afdx_frame.specs.Sealing.{AreBytes}
use Rattle.afdx_frame.specs.declared.link.Side.{Side}
use Rattle.afdx_config.specs.Lawful.{IsWithin}
use Rattle.afdx_config.specs.Rows.{LinkRow, SystemRow}
use Rattle.afdx_config.specs.SentList.{Message}
use Rattle.afdx_lawful.specs.Accepted.{AreNamed, ComeUpTo}
use Rattle.afdx_lawful.specs.Recorded.{IsRecordedOn, IsSourceOf}
use Rattle.afdx_lawful.specs.RecordedExample.{link, sender}
use Rattle.afdx_lawful.specs.RightTwice.{IsInRange, NothingIsFound}
use Rattle.afdx_lawful.specs.Sources.{Came, Source, apart_by}
use Rattle.afdx_lawful.specs.TwoNetworks.{IsLawfulTwice, SentTwice}
use Rattle.afdx_law_recorded.specs.Examples.{both_sent, cut_sent, source_until}
use Rattle.afdx_law_recorded.specs.Pairs.{NoneIsCut}

-- There are messages, and a stream of them that is lawful on two networks, of which the frames are
-- what was recorded.
pub record IsOfLawful (source : Source) (s : SystemRow) (l : LinkRow) (xs : List Came) : Type 0
  where
    pub messages : List Message
    pub stream : List SentTwice
    pub lawful : IsLawfulTwice s l (apart_by source source.given) messages stream
    pub recorded : (side : Side) → IsRecordedOn source stream xs side

-- The frames of a source on both networks are bytes, name its link, and came by time up to the end.
-- Stamps and clocks are exact, and the system was reset before.
pub record IsSeenExactly (source : Source) (xs : List Came) : Type 0 where
  pub paired : source.is_paired ≡ true
  pub start : source.by.start ≡ None
  pub slack : source.by.slack ≡ 0
  pub drift : source.by.drift ≡ 0
  pub bytes : AllByRecursion (λ x. AreBytes x.bytes) xs
  pub named : AreNamed source xs
  pub by_time : ComeUpTo source.until xs

-- Where no copy is cut off nothing is found exactly if that is so.
abbrev pub FoundExactly : Type 0
FoundExactly =
    (source : Source) (s : SystemRow) (l : LinkRow) (xs : List Came) →
    IsInRange source →
    IsSourceOf s l source →
    IsSeenExactly source xs →
    NoneIsCut source xs →
    NothingIsFound source xs ↔ IsOfLawful source s l xs

-- Copies may be sent as far apart whatever their length is: so it is where a distance is given, and
-- where the link's frames have one length.
abbrev pub AreAsFarApart : Source → Type 0
AreAsFarApart s =
    (m n : ℕ) →
    IsWithin s.rule.lmin s.rule.lmax m →
    IsWithin s.rule.lmin s.rule.lmax n →
    apart_by s s.given m ≡ apart_by s s.given n

-- Then nothing is found exactly if there is such a stream, also where copies are cut off.
abbrev pub CutFoundExactly : Type 0
CutFoundExactly =
    (source : Source) (s : SystemRow) (l : LinkRow) (xs : List Came) →
    IsInRange source →
    IsSourceOf s l source →
    IsSeenExactly source xs →
    AreAsFarApart source →
    NothingIsFound source xs ↔ IsOfLawful source s l xs

-- A stream on two networks shows nothing that is found also where copies are cut off.
abbrev pub LawfulShowsNothing : Type 0
LawfulShowsNothing =
    (source : Source) (s : SystemRow) (l : LinkRow) (xs : List Came) →
    IsInRange source →
    IsSourceOf s l source →
    ComeUpTo source.until xs →
    IsOfLawful source s l xs →
    NothingIsFound source xs

-- An example: two messages, of which the copies are sent as far apart as the way leaves them.
pub record ExactlyIsMet : Type 0 where
  pub range : IsInRange (source_until 0 2005760)
  pub of : IsSourceOf sender link (source_until 0 2005760)
  pub seen : IsSeenExactly (source_until 0 2005760) (both_sent 988760)
  pub uncut : NoneIsCut (source_until 0 2005760) (both_sent 988760)
  pub found : NothingIsFound (source_until 0 2005760) (both_sent 988760)

-- Another one: the recordings end before the last copy is sent.
pub record CutExactlyIsMet : Type 0 where
  pub range : IsInRange (source_until 0 1200000)
  pub of : IsSourceOf sender link (source_until 0 1200000)
  pub seen : IsSeenExactly (source_until 0 1200000) cut_sent
  pub alike : AreAsFarApart (source_until 0 1200000)
  pub found : NothingIsFound (source_until 0 1200000) cut_sent
