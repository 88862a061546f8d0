use Rattle.std.proofs.Common.{ℕ, ◌<◌, ◌∙◌, length, arith, refl}
use Rattle.afdx_senders.proofs.CountingLemmas.{cut_next, cut_none, sent_next, sent_none}
use Rattle.afdx_senders.proofs.FollowedLemmas.{read_there}
use Rattle.afdx_senders.proofs.followed.FollowedSources.counts.Goals as goal

pub loop-place-init : goal.loop-place-init
loop-place-init c = record { sent = λ at are over. sent_none at; cut = λ at are over. cut_none at }

pub loop-place-preserved : goal.loop-place-preserved
loop-place-preserved c =
    let xs = c.args.self.now.slots.items in
    let place : ℕ = c.loop-place.place in
    let within : place < length xs =
    (let test = c.loop-place-test.true in let len = c.len-place-end.ensures in omega (arith, test, len)) in record {
      sent = λ at are over.
          c.saturating_add.ensures
          ∙ sent_next at place c.loop-place.counts.sent c.counts_of-own.result.sent
          (c.loop-place.invariant.sent at are over)
          (c.counts_of-own.ensures.sent (at place)
          (read_there at xs place c.index.result.now (at place) are within c.index.ensures refl) (over place));
      cut = λ at are over.
          c.saturating_add-in-loop-place.ensures
          ∙ cut_next at place c.loop-place.counts.cut c.counts_of-own.result.cut
          (c.loop-place.invariant.cut at are over)
          (c.counts_of-own.ensures.cut (at place)
          (read_there at xs place c.index.result.now (at place) are within c.index.ensures refl) (over place));
    }
