-- By how much a frame comes too early for its link's account. Lists have the newest first.
use Rattle.std.specs.Prelude.{◌≡◌, ℕ, ◌+◌, ◌*◌, ◌-◌, ◌<◌, ◌≤◌, All, IsTrue, false, Some, None, List}
use Rattle.std.specs.Int.{div_ceil}
use Rattle.afdx_frame.specs.Regulation.{Regulation, is_bag, byte_units, fill_rate, cap}
use Rattle.afdx_police.specs.declared.shape.Reason.TheVariants.{OverRate}
use Rattle.afdx_police.specs.Account.{missing}
use Rattle.afdx_police.specs.Arrival.{Arrival, arrival_with}
use Rattle.afdx_police.specs.Rule.{Rule, regulation_of}
use Rattle.afdx_police.specs.Verdicts.{accepted_own, charged_by, reason_after}
use Rattle.afdx_police.specs.Window.{Charged, fits}

-- the frame, if it comes so much later
abbrev pub charged_later : ℕ → Charged → Charged
charged_later wait x = record { time = x.time + wait; charge = x.charge }

-- the frame fits this many nanoseconds later, and no sooner
pub record IsLeastWait (link : Regulation) (accepted : List Charged) (last : Charged)
    (wait : ℕ) : Type 0 where
  pub fits_then : IsTrue (fits link accepted (charged_later wait last))
  pub not_before : (less : ℕ) → less < wait → fits link accepted (charged_later less last) ≡ false

-- the time in which the account is filled with what it lacks of the frame's charge, in whole
-- nanoseconds
unfoldable pub least_wait : Regulation → List Charged → Charged → ℕ
least_wait link accepted last =
    div_ceil (missing link accepted last.time + byte_units * last.charge - cap link)
    (fill_rate link)

-- that is the least wait, for each frame that its link may send
abbrev pub LeastWaitIsFill : Type 0
LeastWaitIsFill =
    (link : Regulation) (accepted : List Charged) (last : Charged) →
    IsTrue (is_bag link.bag_ms) →
    0 < link.smax →
    last.charge ≤ link.smax →
    All (λ x. x.time ≤ last.time) accepted →
    IsLeastWait link accepted last (least_wait link accepted last)

-- the arrival, if it comes so much later
abbrev pub arrival_later : ℕ → Arrival → Arrival
arrival_later wait x = arrival_with x.tag (x.time + wait) x.side x.port x.bytes

-- by how much an arrival that comes after these of its link is too early, 0 if it isn't
abbrev pub early_after : Rule → List Arrival → Arrival → ℕ
early_after rule past x =
    least_wait (regulation_of rule) (accepted_own rule past) (charged_by rule x)

-- an arrival that comes after these of its link is so much too early: it would be accepted if it
-- came this many nanoseconds later, and dropped for its link's rate if it came by less later
pub record IsEarlyBy (rule : Rule) (past : List Arrival) (x : Arrival) (wait : ℕ) : Type 0 where
  pub accepted_then : reason_after rule past (arrival_later wait x) ≡ None
  pub dropped_before : (less : ℕ) →
      less < wait →
      reason_after rule past (arrival_later less x) ≡ Some OverRate
