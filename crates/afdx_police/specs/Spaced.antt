-- The stream of a link that keeps its gap, told by the times of its frames alone: no moment of
-- release is named. Lists have the newest first.
use Rattle.std.specs.Prelude.{◌≡◌, ℕ, ◌+◌, ◌*◌, ◌≤◌, List, [], ◌∷◌}
use Rattle.afdx_frame.specs.Regulation.{Regulation, bag, jitter}
use Rattle.afdx_police.specs.Stream.{IsRegular}
use Rattle.afdx_police.specs.Window.{Charged, accepted_of}

-- a frame comes so many gaps behind each of these, but for the jitter: behind the newest, with n
-- between, n + 1
abbrev pub IsGapsBehind : Regulation → ℕ → Charged → List Charged → Type 0
IsGapsBehind link n x [] = Unit {0}
IsGapsBehind link n x (first ∷ before) =
    (bag link * (n + 1) + first.time ≤ x.time + jitter link) × IsGapsBehind link (n + 1) x before

-- each frame does, and is charged at most the link's greatest frame
abbrev pub IsSpaced : Regulation → List Charged → Type 0
IsSpaced link [] = Unit {0}
IsSpaced link (x ∷ past) =
    (x.charge ≤ link.smax) × IsGapsBehind link 0 x past × IsSpaced link past

-- all of such a stream is accepted
abbrev pub SpacedIsAccepted : Type 0
SpacedIsAccepted =
    (link : Regulation) (stream : List Charged) →
    IsSpaced link stream →
    accepted_of link stream ≡ stream

-- a stream that was released a gap or more apart, each frame at most the jitter before it came, is
abbrev pub RegularIsSpaced : Type 0
RegularIsSpaced =
    (link : Regulation) (stream : List Charged) (next : ℕ) →
    IsRegular link stream next →
    IsSpaced link stream

-- the same, later by so many ns
abbrev pub later_by : ℕ → Charged → Charged
later_by ns x = record { time = x.time + ns; charge = x.charge }

unfoldable pub all_later : ℕ → List Charged → List Charged
all_later ns [] = []
all_later ns (x ∷ past) = later_by ns x ∷ all_later ns past

-- it was released so, if time began as long before as the jitter is: then no moment need lie before
-- the first
abbrev pub SpacedIsRegular : Type 0
SpacedIsRegular =
    (link : Regulation) (stream : List Charged) →
    IsSpaced link stream →
    (next : ℕ) × IsRegular link (all_later (jitter link) stream) next
