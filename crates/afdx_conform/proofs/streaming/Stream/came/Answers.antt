use Rattle.afdx_conform.specs.Ahead.{until_then}
use Rattle.afdx_conform.specs.Marks.{arrival_of}
use Rattle.afdx_conform.proofs.DueLemmas.{due-same}
use Rattle.afdx_conform.proofs.StandingLemmas.{come-for, judged-for, on-err, on-every, over-until, stands-came, stands-same}
use Rattle.afdx_conform.proofs.streaming.Stream.came.Goals as goal

pub returns-clause-stands : goal.returns-clause-stands
returns-clause-stands c z xs ys j time js m h =
    on-every c.add_arrival-added.result time
    (λ f. stands-came z xs ys j time c.args.self.now _ h c.args.arrived js m f)
    (λ until le. c.add_arrival-added.ensures.after (until_then until z) xs ys 0 time h.over
    (judged-for z until c.args.arrived js)
    (come-for z until xs time (arrival_of c.args.arrived) m) (over-until z until time h.over h.before)
    (h.is_after until le))

pub returns-clause-refused : goal.returns-clause-refused
returns-clause-refused c z xs ys j time h =
    on-err c.add_arrival-added.result (λ s. stands-same z xs ys j time c.args.self.now _ h s)
    c.add_arrival-added.ensures.refused

pub returns-clause-due_then : goal.returns-clause-due_then
returns-clause-due_then c = on-err c.add_arrival-added.result (λ s. due-same c.args.self.now.growth _ s)
    c.add_arrival-added.ensures.refused
