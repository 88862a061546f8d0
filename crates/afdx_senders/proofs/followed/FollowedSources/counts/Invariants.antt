use Rattle.std.proofs.Common.{◌≡◌}
use Rattle.afdx_lawful.specs.Tallies.{counted}
use Rattle.afdx_senders.specs.Counting.{AreOver, cut_below, sent_below}
use Rattle.afdx_senders.specs.Followed.{AreFollowed, ByPlace}
use Rattle.afdx_senders.proofs.followed.FollowedSources.counts.Given as goal

abbrev pub invariant-loop-place : goal.invariant-loop-place
invariant-loop-place l = record {
  sent : (at : ByPlace) → AreFollowed at l.self → AreOver at → l.counts.sent ≡ counted (sent_below at l.place);
  cut : (at : ByPlace) → AreFollowed at l.self → AreOver at → l.counts.cut ≡ counted (cut_below at l.place);
}
