use Rattle.std.proofs.Common.{◌∙◌, ap}
use Rattle.afdx_lawful.specs.Tallies.{counted}
use Rattle.afdx_senders.specs.Counting.{cut_below, sent_below}
use Rattle.afdx_senders.proofs.CountsLemmas.{are_over, cut_same, sent_same}
use Rattle.afdx_senders.proofs.senders.Senders.counts.Goals as goal

pub returns-clause-sent : goal.returns-clause-sent
returns-clause-sent c z xs told h few =
    c.counts.ensures.sent h.at h.stand.followed (are_over z xs h.at h.own h.settled few)
    ∙ ap (λ n. counted (sent_below h.at n)) h.setup.room ∙ ap counted (sent_same z xs h.at h.own _)

pub returns-clause-cut : goal.returns-clause-cut
returns-clause-cut c z xs told h few =
    c.counts.ensures.cut h.at h.stand.followed (are_over z xs h.at h.own h.settled few)
    ∙ ap (λ n. counted (cut_below h.at n)) h.setup.room ∙ ap counted (cut_same z xs h.at h.own _)
