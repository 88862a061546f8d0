use Rattle.std.proofs.Common.{◌≡◌, ◌≤◌, ℕ, List, Option}
use Rattle.afdx_police.specs.Arrival.{Arrival}
use Rattle.afdx_senders.specs.History.{HaveTold}
use Rattle.afdx_senders.specs.Lines.{Line}
use Rattle.afdx_senders.specs.SenderCounts.{alone_up_to}
use Rattle.afdx_senders.specs.Setups.{Setup}
use Rattle.afdx_senders.proofs.senders.Senders.alone.Given as goal

abbrev pub invariant-loop-place : goal.invariant-loop-place
invariant-loop-place l = record {
  few : l.count ≤ l.place;
  sum : (z : Setup) (before : Option ℕ) (xs : List Arrival) (told : List Line) → HaveTold z before xs told l.self →
      l.count ≡ alone_up_to z l.place;
}
