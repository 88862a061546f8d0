-- What a stream holds of what it was told: what is decided is let go of.
use Rattle.std.specs.Prelude.{◌≡◌, ℕ, ◌+◌, ◌*◌, ◌<◌, ◌≤◌, true, List, [], ◌∷◌, drop, get_or, length}
use Rattle.afdx_conform.specs.declared.arrived.Arrived.{Arrived}
use Rattle.afdx_conform.specs.declared.growth.Growth.{Growth}
use Rattle.afdx_conform.specs.declared.limits.LeftFrame.{LeftFrame}
use Rattle.afdx_conform.specs.declared.limits.Limits.{Limits}

-- arrivals that go by time
abbrev pub AreArrivals : List Arrived → Type 0
AreArrivals arrivals = (i k : ℕ) (a b : Arrived) → i ≤ k → k < length arrivals
    → a ≡ get_or arrivals i a → b ≡ get_or arrivals k b → a.time ≤ b.time

-- the arrival came so early that the frame left too late to be its
abbrev pub IsTooEarly : Limits → Arrived → LeftFrame → Type 0
IsTooEarly limits a f = a.time + limits.latency + limits.reach < f.time

-- the first of these frames left early enough to be of an arrival of this time
abbrev pub IsAsked : Limits → ℕ → List LeftFrame → Type 0
IsAsked limits time [] = ⊥
IsAsked limits time (f ∷ frames) = f.time ≤ time + limits.latency + limits.reach

-- it did for each of the arrivals from a place on, of the first so many, whose events are over
abbrev pub AreAsked : Limits → List Arrived → (over : ℕ) → List LeftFrame → (place : ℕ) → Type 0
AreAsked limits arrivals over frames place = (k : ℕ) (a : Arrived) → place ≤ k → k < over
    → a ≡ get_or arrivals k a → IsAsked limits a.time frames

-- of the frames that it holds at most half are closed; of the arrivals, those of the newer half
-- whose events are over came late enough for the next frame that isn't closed; and once nothing is
-- judged any more it holds none
pub record IsLean (s : Growth) : Type 0 where
  pub frames : s.closed + s.closed ≤ length s.frames.items
  pub arrivals : (place : ℕ) → length s.arrivals.items ≤ 2 * (place + 1) →
      AreAsked s.bounds.limits s.arrivals.items (length s.judging.marks.items)
      (drop s.closed s.frames.items) place
  pub unsure : s.judging.is_unsure ≡ true →
      (length s.arrivals.items ≡ 0) × (length s.frames.items ≡ 0)

-- ---- what stays the same

-- only frames were let go of
pub record KeepsArrivals (before after : Growth) : Type 0 where
  pub bounds : after.bounds ≡ before.bounds
  pub arrivals : after.arrivals.items ≡ before.arrivals.items
  pub marks : after.judging.marks.items ≡ before.judging.marks.items
  pub is_unsure : after.judging.is_unsure ≡ before.judging.is_unsure

-- only arrivals were let go of
pub record KeepsFrames (before after : Growth) : Type 0 where
  pub bounds : after.bounds ≡ before.bounds
  pub frames : after.frames.items ≡ before.frames.items
  pub closed : after.closed ≡ before.closed
  pub is_unsure : after.judging.is_unsure ≡ before.judging.is_unsure
