-- Where nothing is found of a source, and stamps and clocks are exact, its first switch accepts
-- each of its frames.
use Rattle.std.specs.Prelude.{◌≡◌, ℕ, true, List, [], ◌∷◌, map}
use Rattle.afdx_frame.specs.declared.link.Side.{Side}
use Rattle.afdx_police.specs.Arrival.{Arrival, arrival_with, names}
use Rattle.afdx_police.specs.Spacing.{AreUpTo}
use Rattle.afdx_police.specs.Verdicts.{accepted_arrivals}
use Rattle.afdx_lawful.specs.Judged.{found_coming}
use Rattle.afdx_lawful.specs.Sources.{Came, Source, on_side}

-- each names the source's link
abbrev pub AreNamed : Source → List Came → Type 0
AreNamed s [] = Unit {0}
AreNamed s (x ∷ past) = (names s.rule.vl x.bytes ≡ true) × AreNamed s past

-- they come by time, the last one at this time or before
abbrev pub ComeUpTo : ℕ → List Came → Type 0
ComeUpTo time xs = AreUpTo time (map (λ x. x.time) xs)

-- a frame as the first switch gets it, at the input port of its link
abbrev pub arrival_of : Source → Came → Arrival
arrival_of s x = arrival_with x.line x.time x.side s.rule.port x.bytes

-- those of a side
abbrev pub arrivals_of : Source → Side → List Came → List Arrival
arrivals_of s side xs = map (arrival_of s) (on_side side xs)

-- the window rule accepts all of them, by whatever policing
abbrev pub LawfulIsAccepted : Type 0
LawfulIsAccepted =
    (s : Source) (xs : List Came) (side : Side) →
    s.by.slack ≡ 0 →
    s.by.drift ≡ 0 →
    ComeUpTo s.until xs →
    AreNamed s xs →
    found_coming s xs ≡ [] →
    accepted_arrivals s.rule (arrivals_of s side xs) ≡ arrivals_of s side xs
