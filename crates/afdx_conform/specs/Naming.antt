-- The first arrival that the finding of a frame may name, by its place.
use Rattle.std.specs.Prelude.{◌≡◌, ◌≤◌, ◌<◌, ℕ, Bool, Option, true, false, not, ◌&&◌, is_some, is_none, Some, None, List, [], ◌∷◌, ◌++◌, take, drop, get_or, length}
use Rattle.afdx_police.specs.declared.shape.Reason.{Reason}
use Rattle.afdx_conform.specs.Findings.{Marked, marked, first_named, once_named, Judged, unexplained}
use Rattle.afdx_conform.specs.Findings.{Finding, with_finding, frames_of}
use Rattle.afdx_conform.specs.declared.finding.Finding.TheVariants.{Passed}
use Rattle.afdx_conform.specs.declared.arrived.Arrived.{Arrived}
use Rattle.afdx_conform.specs.declared.finding.Mark.{Mark}
use Rattle.afdx_conform.specs.declared.gaps.Gap.{Gap}
use Rattle.afdx_conform.specs.declared.gaps.Gaps.{Gaps}
use Rattle.afdx_conform.specs.declared.gaps.Wanted.{Wanted}
use Rattle.afdx_conform.specs.declared.gaps.Wanted.TheVariants.{ToName, Accepted}
use Rattle.afdx_conform.specs.declared.limits.LeftFrame.{LeftFrame}
use Rattle.afdx_conform.specs.declared.limits.Limits.{Limits}
use Rattle.afdx_conform.specs.KnownBytes.{has_bytes, may_fit}
use Rattle.afdx_conform.specs.Streams.{Gone, Terms}

-- a finding may name an arrival that is marked so
abbrev pub may_be_named : Mark → Bool
may_be_named m = is_some m.reason && not m.is_named

-- an arrival that is marked so is looked for: one that a finding may name, or one that isn't
-- refused
abbrev pub is_wanted : Wanted → Mark → Bool
is_wanted ToName m = may_be_named m
is_wanted Accepted m = is_none m.reason

-- between two places all arrivals are judged, and none of those that pass a test is wanted
pub record IsGap (wanted : Wanted) (test : Arrived → Bool) (gap : Gap) (arrivals : List Arrived)
    (marks : List Mark) : Type 0 where
  pub within : gap.to ≤ length marks
  pub none : (p : ℕ) (a : Arrived) (m : Mark) → gap.from ≤ p → p < gap.to →
      test (get_or arrivals p a) ≡ true → is_wanted wanted (get_or marks p m) ≡ false

pub record AreGaps (test : Arrived → Bool) (gaps : Gaps) (arrivals : List Arrived)
    (marks : List Mark) : Type 0 where
  pub to_name : IsGap ToName test gaps.to_name arrivals marks
  pub accepted : IsGap Accepted test gaps.accepted arrivals marks

abbrev pub no_gap : Gap
no_gap = record { from = 0; to = 0 }

abbrev pub no_gaps : Gaps
no_gaps = record { to_name = no_gap; accepted = no_gap }

-- what is kept at an arrival's place are gaps of its bytes
pub record AreSettled (gaps : List Gaps) (arrivals : List Arrived) (marks : List Mark)
    : Type 0 where
  pub long : length gaps ≤ length arrivals
  pub each : (i : ℕ) (a : Arrived) → AreGaps (has_bytes (get_or arrivals i a).bytes)
      (get_or gaps i no_gaps) arrivals marks

-- the first so many arrivals are judged, and none of them that the frame fits is wanted
pub record NoneIsWanted (wanted : Wanted) (limits : Limits) (frame : LeftFrame) (count : ℕ)
    (arrivals : List Arrived) (marks : List Mark) : Type 0 where
  pub within : count ≤ length marks
  pub none : (p : ℕ) (a : Arrived) (m : Mark) → p < count →
      may_fit limits frame (get_or arrivals p a) ≡ true →
      is_wanted wanted (get_or marks p m) ≡ false

-- no arrival is wanted that wasn't
abbrev pub StayUnwanted : (before after : List Mark) → Type 0
StayUnwanted before after = (wanted : Wanted) (p : ℕ) (m : Mark) →
    is_wanted wanted (get_or before p m) ≡ false → is_wanted wanted (get_or after p m) ≡ false

-- none of these is
pub record IsNoneNamed (z : Terms) (y : Gone) (l : List Marked) : Type 0 where
  pub none : first_named z y l ≡ None
  pub same : once_named z y l ≡ l

-- the one at this place is, for this reason
pub record IsNamedAt (z : Terms) (y : Gone) (l : List Marked) (place : ℕ)
    (reason : Reason) : Type 0 where
  pub at : Marked
  pub behind : List Marked
  pub here : drop place l ≡ at ∷ behind
  pub mark : at.mark ≡ Some reason
  pub first : first_named z y l ≡ Some (Passed at.arrival.tag reason)
  pub once : once_named z y l ≡ take place l ++ (marked at.arrival at.mark true ∷ behind)

-- what is found of frames that no arrival explains, one after another, at one time
unfoldable pub unexplained_all : Terms → ℕ → List Gone → Judged → Judged
unexplained_all z time [] j = j
unexplained_all z time (y ∷ ys) j = unexplained_all z time ys (unexplained z time y j)

-- and what is found behind them, if there is something
abbrev pub with_last : ℕ → Option Finding → Judged → Judged
with_last time None j = j
with_last time (Some finding) j = with_finding time finding (frames_of finding) j
