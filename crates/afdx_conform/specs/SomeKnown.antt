-- A stream of which some was known at a moment: the frame of its first arrival is missing.
use Rattle.std.specs.Prelude.{◌≡◌, [], ◌∷◌}
use Rattle.afdx_frame.specs.declared.link.Side.TheVariants.{A}
use Rattle.afdx_police.specs.Arrival.{Arrival, arrival_with}
use Rattle.afdx_conform.specs.EventLaws.{AreKnownAt}
use Rattle.afdx_conform.specs.Events.{found_before, judged_whole}
use Rattle.afdx_conform.specs.Findings.{found_at}
use Rattle.afdx_conform.specs.Worked.{frame_bytes, terms, left}
use Rattle.afdx_conform.specs.declared.finding.Finding.TheVariants.{Stopped}

abbrev first : Arrival
first = arrival_with 1 0 A 1 frame_bytes

abbrev second : Arrival
second = arrival_with 2 600000 A 1 frame_bytes

-- whether or not a second one comes, and leaves
pub record SomeIsKnown : Type 0 where
  pub more : AreKnownAt (terms 1000000) 600000 (first ∷ []) (second ∷ []) [] (left 1 606720 ∷ [])
  pub none : AreKnownAt (terms 600000) 600000 (first ∷ []) [] [] []
  pub found : found_before (terms 600000) 600000
      (judged_whole (terms 600000) (first ∷ []) []).findings ≡ found_at 0 (Stopped 1) ∷ []
