use Rattle.std.proofs.Common.{ap, ap₂, ◌∙◌, sym}
use Rattle.afdx_senders.specs.Sites.{among_of, came_at, recorded_in, source_of}
use Rattle.afdx_senders.proofs.BegunLemmas.{has_begun}
use Rattle.afdx_senders.proofs.HistoryLemmas.{always_err, may_then, ok_both, one_came}
use Rattle.afdx_senders.proofs.senders.Senders.came.Goals as goal

pub returns-clause-came : goal.returns-clause-came
returns-clause-came c z xs told h =
    let x = c.args.x.now in
    let old = c.args.self.now in
    let among = among_of old.sites in
    let whose = source_of old.sites.tables.now among (recorded_in old.sites.recorded) (came_at x) in
    let is =
    sym (ap (λ m. source_of old.sites.tables.now m (recorded_in old.sites.recorded) (came_at x)) h.setup.among
    ∙ ap₂ (λ t r. source_of t z.among r (came_at x)) h.setup.tables h.setup.recorded) in
    let may = may_then z x xs told old h whose is in
    ok_both (λ stand adds. one_came z x xs told old h whose is c.hear.new.self c.hear.ensures.sites
    c.hear.ensures.room stand adds) c.hear.result (c.hear.ensures.stands h.at may h.stand)
    (c.hear.ensures.found h.at may h.stand)

pub returns-clause-refused : goal.returns-clause-refused
returns-clause-refused c z xs told h =
    always_err (has_begun z _ xs told _ h.lines) c.hear.result
