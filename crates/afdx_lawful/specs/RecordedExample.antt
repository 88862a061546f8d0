-- An example of a lawful stream on two networks as it was recorded: copies on B are sent as much
-- later as the way leaves them, and the recordings end before the last of them.
use Rattle.std.specs.Prelude.{◌≡◌, None, List, [], ◌∷◌, codes}
use Rattle.afdx_frame.specs.declared.link.Policing.TheVariants.{Frame}
use Rattle.afdx_frame.specs.declared.link.Side.{Side}
use Rattle.afdx_config.specs.Rows.{LinkRow, SystemRow, example_link}
use Rattle.afdx_lawful.specs.Accepted.{ComeUpTo}
use Rattle.afdx_lawful.specs.Judged.{judged_source}
use Rattle.afdx_lawful.specs.Nearness.{hello}
use Rattle.afdx_lawful.specs.Recorded.{IsRecordedOn, IsSourceOf}
use Rattle.afdx_lawful.specs.RightTwice.{IsInRange}
use Rattle.afdx_lawful.specs.Sources.{Came, Source, apart_by}
use Rattle.afdx_lawful.specs.TwoNetworks.{IsLawfulTwice, SentTwice}
use Rattle.afdx_lawful.specs.Worked.{a0, a1, b0, b1, exact, nothing, on_a, on_b, source}

abbrev pub exact_source : Source
exact_source = source exact None 1200000

abbrev pub sender : SystemRow
sender = record { name = codes "s1"; port = 1; id = 1; partition = 1; rate = 100 }

abbrev pub link : LinkRow
link = record example_link { policing = Frame }

abbrev pub stream : List SentTwice
stream = record { on_a = 0; on_b = 988760; a = a0; b = b0 }
    ∷ record { on_a = 1000000; on_b = 1988760; a = a1; b = b1 } ∷ []

abbrev pub seen_of_stream : List Came
seen_of_stream = on_a 3 1000000 a1 ∷ on_b 2 988760 b0 ∷ on_a 1 0 a0 ∷ []

-- All is met that is asked of such a stream. Nothing is found, and one frame's copy is cut off.
pub record LawfulIsMet : Type 0 where
  pub range : IsInRange exact_source
  pub of : IsSourceOf sender link exact_source
  pub lawful :
      IsLawfulTwice sender link (apart_by exact_source None) (hello ∷ hello ∷ []) stream
  pub by_time : ComeUpTo exact_source.until seen_of_stream
  pub recorded : (side : Side) → IsRecordedOn exact_source stream seen_of_stream side
  pub judged : judged_source exact_source seen_of_stream ≡ nothing 3 1
