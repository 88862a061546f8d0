-- What the code keeps of arrivals whose events are over.
use Rattle.std.specs.Prelude.{◌≡◌, ℕ, ◌+◌, Some, None, List, [], ◌∷◌, ◌++◌, map, reverse}
use Rattle.afdx_police.specs.Arrival.{Arrival, arrival_with}
use Rattle.afdx_police.specs.Shape.{fault_of}
use Rattle.afdx_conform.specs.Explanations.{charge}
use Rattle.afdx_conform.specs.Findings.{Marked, marked, Judged, judged_with, found_at, frames_in}
use Rattle.afdx_conform.specs.Streams.{Terms}
use Rattle.afdx_conform.specs.declared.arrived.Arrived.{Arrived}
use Rattle.afdx_conform.specs.declared.finding.Finding.{Finding}
use Rattle.afdx_conform.specs.declared.finding.Mark.{Mark}

-- as an arrival at a switch
abbrev pub arrival_of : Arrived → Arrival
arrival_of a = arrival_with a.number a.time a.side a.port a.bytes

-- it is charged so, by the rule of a stream
pub record IsCharged (z : Terms) (a : Arrived) : Type 0 where
  pub charge : a.charge ≡ charge z (arrival_of a)

-- what it says of its shape is so, and of its charge if its shape is right
pub record IsJudged (z : Terms) (a : Arrived) : Type 0 where
  pub fault : a.fault ≡ fault_of (Some z.rule) a.port a.bytes
  pub charged : a.fault ≡ None → IsCharged z a

-- an arrival with its mark
abbrev pub marked_of : Arrived → Mark → Marked
marked_of a m = marked (arrival_of a) m.reason m.is_named

-- arrivals with their marks; those without one are still to be judged
unfoldable pub marked_all : List Arrived → List Mark → List Marked
marked_all [] marks = []
marked_all (a ∷ more) [] = []
marked_all (a ∷ more) (m ∷ marks) = marked_of a m ∷ marked_all more marks

-- once these were found at one time, in their order, by which these arrivals are named
abbrev pub told : ℕ → List Finding → List Marked → Judged → Judged
told time found arrivals j =
    judged_with j.states arrivals (map (found_at time) (reverse found) ++ j.findings)
    (j.frames + frames_in found) j.uncertain j.is_unsure
