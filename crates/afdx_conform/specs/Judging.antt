-- What the code keeps of how far a stream is judged.
use Rattle.std.specs.Prelude.{◌≡◌, ℕ, ◌+◌, List, ◌++◌, length, map, reverse, All}
use Rattle.afdx_conform.specs.Findings.{Finding, Judged, found_at, frames_in}
use Rattle.afdx_conform.specs.HeldStates.{IsWithin, state_of}
use Rattle.afdx_conform.specs.Limits.{gone_of}
use Rattle.afdx_conform.specs.Marks.{marked_all}
use Rattle.afdx_conform.specs.declared.arrived.Arrived.{Arrived}
use Rattle.afdx_conform.specs.declared.judging.Judging.{Judging}
use Rattle.afdx_conform.specs.declared.levels.Rates.{Rates}
use Rattle.afdx_conform.specs.declared.limits.LeftFrame.{LeftFrame}

-- of a stream of these frames and arrivals it keeps all but the findings
pub record StandsFor (rates : Rates) (frames : List LeftFrame) (arrivals : List Arrived)
    (j : Judged) (g : Judging) : Type 0 where
  pub states : map (state_of (map gone_of frames)) g.held.items ≡ j.states
  pub within : All (λ h. IsWithin rates (length frames) (length g.marks.items) h) g.held.items
  pub marks : marked_all arrivals g.marks.items ≡ j.arrivals
  pub uncertain : g.uncertain ≡ j.uncertain
  pub unsure : g.is_unsure ≡ j.is_unsure

-- these are the findings of the second that the first doesn't have, at one time, in their order
pub record AreFound (time : ℕ) (found : List Finding) (before after : Judged) : Type 0 where
  pub findings : after.findings ≡ map (found_at time) (reverse found) ++ before.findings
  pub frames : after.frames ≡ before.frames + frames_in found

-- nothing has changed
pub record IsUnchanged (before after : Judging) : Type 0 where
  pub held : after.held.items ≡ before.held.items
  pub marks : after.marks.items ≡ before.marks.items
  pub uncertain : after.uncertain ≡ before.uncertain
  pub unsure : after.is_unsure ≡ before.is_unsure
