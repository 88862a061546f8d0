-- By how much an arrival comes too early at a switch, after these earlier ones. A list of arrivals
-- has the newest first.
use Rattle.std.specs.Prelude.{◌≡◌, ℕ, ◌<◌, Some, None, List}
use Rattle.afdx_config.specs.Rows.{Rows}
use Rattle.afdx_police.specs.Arrival.{Arrival}
use Rattle.afdx_police.specs.Early.{arrival_later}
use Rattle.afdx_police.specs.declared.shape.Reason.TheVariants.{OverRate}
use Rattle.afdx_switch.specs.Verdicts.{reason_of}

-- an arrival is so much too early: the switch would accept it if it came this many nanoseconds
-- later, and drop it for its link's rate if it came by less later
pub record IsEarlyBy (t : Rows) (past : List Arrival) (x : Arrival) (wait : ℕ) : Type 0 where
  pub accepted_then : reason_of t past (arrival_later wait x) ≡ None
  pub dropped_before : (less : ℕ) →
      less < wait →
      reason_of t past (arrival_later less x) ≡ Some OverRate
