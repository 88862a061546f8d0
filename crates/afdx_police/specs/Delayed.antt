-- Frames that were accepted once, and come later to another switch. Lists have the newest first.
use Rattle.std.specs.Prelude.{◌≡◌, ℕ, ◌+◌, ◌<◌, ◌≤◌, List, [], ◌∷◌}
use Rattle.afdx_frame.specs.Regulation.{Regulation, bag, jitter}
use Rattle.afdx_police.specs.Window.{Charged, accepted_of}

-- the next switch has the same contract, with room in its jitter for the delay
pub record HasRoom (delay : ℕ) (before next : Regulation) : Type 0 where
  pub bag_ms : next.bag_ms ≡ before.bag_ms
  pub smax : next.smax ≡ before.smax
  pub jitter : jitter before + delay ≤ jitter next

-- the frame comes later, by at most the delay, and is charged the same
pub record IsDelayed (delay : ℕ) (x y : Charged) : Type 0 where
  pub charge : y.charge ≡ x.charge
  pub after : x.time ≤ y.time
  pub within : y.time ≤ x.time + delay

-- each of these frames does, one for each, in their order
abbrev pub AreDelayed : ℕ → List Charged → List Charged → Type 0
AreDelayed delay [] [] = Unit {0}
AreDelayed delay [] (y ∷ later) = ⊥
AreDelayed delay (x ∷ past) [] = ⊥
AreDelayed delay (x ∷ past) (y ∷ later) = IsDelayed delay x y × AreDelayed delay past later

-- frames that one switch accepted are all accepted by the next
abbrev pub DelayedAreAccepted : Type 0
DelayedAreAccepted =
    (delay : ℕ) (before next : Regulation) (came later : List Charged) →
    HasRoom delay before next →
    AreDelayed delay (accepted_of before came) later →
    accepted_of next later ≡ later

-- all that came was accepted, and comes later, and not all of it is accepted by the next
pub record IsRefusedLater (delay : ℕ) (before next : Regulation) : Type 0 where
  pub came : List Charged
  pub later : List Charged
  pub accepted : accepted_of before came ≡ came
  pub delayed : AreDelayed delay came later
  pub refused : accepted_of next later ≡ later → ⊥

-- no less room is enough, where jitter and delay together are at most the gap
abbrev pub RoomIsNeeded : Type 0
RoomIsNeeded =
    (delay : ℕ) (before next : Regulation) →
    0 < before.smax →
    next.bag_ms ≡ before.bag_ms →
    next.smax ≡ before.smax →
    jitter before + delay ≤ bag before →
    jitter next < jitter before + delay →
    IsRefusedLater delay before next
