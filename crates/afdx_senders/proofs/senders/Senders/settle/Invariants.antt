use Rattle.std.proofs.Common.{◌≡◌, ℕ, ◌≤◌, length}
use Rattle.afdx_senders.specs.Counting.{held_in_all, lines_left}
use Rattle.afdx_senders.specs.Followed.{ByPlace}
use Rattle.afdx_senders.specs.Settling.{AreSources, IsEnd}
use Rattle.afdx_senders.specs.Standing.{SendersStand}
use Rattle.afdx_senders.proofs.SettlingLemmas.{SoFar}
use Rattle.afdx_senders.proofs.senders.Senders.settle.Given as goal

abbrev pub invariant-loop-place : goal.invariant-loop-place
invariant-loop-place l = record {
  sites : l.self.sites ≡ l.fn.self.sites;
  room : length l.self.kept.slots.items ≡ length l.fn.self.kept.slots.items;
  left : lines_left l.self ≤ lines_left l.fn.self;
  so_far : (at : ByPlace) (until : ℕ) → SendersStand at l.fn.self → AreSources l.fn.self.sites.tables.now until at →
      IsEnd l.fn.end l.fn.before until
      → SoFar l.fn.self.sites.tables.now l.fn.before at l.fn.self.found l.self;
}

abbrev pub decreases-loop-place : goal.decreases-loop-place
decreases-loop-place l = held_in_all l.self.kept
