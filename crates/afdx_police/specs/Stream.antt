-- The stream of a link that keeps its gap, the newest first.
use Rattle.std.specs.Prelude.{◌≡◌, ℕ, ◌+◌, ◌≤◌, List, [], ◌∷◌}
use Rattle.afdx_frame.specs.Regulation.{Regulation, bag, jitter}
use Rattle.afdx_police.specs.Window.{Charged, accepted_of}

-- each frame was released at some moment, a gap before the one after it and before `next`, and came
-- at most the jitter later
abbrev pub IsRegular : Regulation → List Charged → ℕ → Type 0
IsRegular link [] next = Unit {0}
IsRegular link (x ∷ past) next =
    (release : ℕ) × (release + bag link ≤ next) × (release ≤ x.time)
    × (x.time ≤ release + jitter link) × (x.charge ≤ link.smax)
    × IsRegular link past release

-- all of such a stream is accepted
abbrev pub RegularIsAccepted : Type 0
RegularIsAccepted =
    (link : Regulation) (stream : List Charged) (next : ℕ) →
    IsRegular link stream next →
    accepted_of link stream ≡ stream
