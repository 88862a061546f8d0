use Rattle.std.proofs.Common.{◌≡◌, length}
use Rattle.afdx_senders.specs.Followed.{ByPlace}
use Rattle.afdx_senders.specs.Standing.{SendersStand}
use Rattle.afdx_senders.proofs.senders.Senders.take_due.Given as goal

abbrev pub invariant-loop-entry : goal.invariant-loop-entry
invariant-loop-entry l = record {
  found : l.self.found ≡ l.fn.self.found;
  kept : l.self.kept ≡ l.fn.self.kept;
  sites : l.self.sites ≡ l.fn.self.sites;
  stand : (at : ByPlace) → SendersStand at l.fn.self → SendersStand at l.self;
}

abbrev pub decreases-loop-entry : goal.decreases-loop-entry
decreases-loop-entry l = length l.self.agenda
