use Rattle.afdx_conform.specs.Ahead.{until_then}
use Rattle.afdx_conform.specs.Limits.{gone_of}
use Rattle.afdx_conform.proofs.DueLemmas.{due-same}
use Rattle.afdx_conform.proofs.StandingLemmas.{leave-for, on-err, on-every, over-until, stands-left, stands-same}
use Rattle.afdx_conform.proofs.streaming.Stream.left.Goals as goal

pub returns-clause-stands : goal.returns-clause-stands
returns-clause-stands c z xs ys j time m h =
    on-every c.add_frame-added.result time
    (λ f. stands-left z xs ys j time c.args.self.now _ h (gone_of c.args.frame) m f)
    (λ until le. c.add_frame-added.ensures.after (until_then until z) xs ys time h.over
    (leave-for z until ys time (gone_of c.args.frame) m) le (over-until z until time h.over h.before)
    (h.is_after until le))

pub returns-clause-refused : goal.returns-clause-refused
returns-clause-refused c z xs ys j time h =
    on-err c.add_frame-added.result (λ s. stands-same z xs ys j time c.args.self.now _ h s)
    c.add_frame-added.ensures.refused

pub returns-clause-due_then : goal.returns-clause-due_then
returns-clause-due_then c = on-err c.add_frame-added.result (λ s. due-same c.args.self.now.growth _ s)
    c.add_frame-added.ensures.refused
