use Rattle.afdx_conform.specs.Ahead.{until_then}
use Rattle.afdx_conform.specs.Histories.{uncut}
use Rattle.afdx_conform.proofs.DueLemmas.{due-same}
use Rattle.afdx_conform.proofs.KeepLemmas.{if-ok-on}
use Rattle.afdx_conform.proofs.StandingDecides.{due-sure}
use Rattle.afdx_conform.proofs.StandingLemmas.{ending-same, on-err, stands-same}
use Rattle.afdx_conform.proofs.StandingSteps.{Cut, ends-next, event, known-at, known-last, last-event, last-next, next-at, stands-next}
use Rattle.afdx_conform.proofs.streaming.Stream.decide.Goals as goal

pub returns-clause-stands : goal.returns-clause-stands
returns-clause-stands c z xs ys j time moment none due lt h =
    if-ok-on c.decide-found.result (λ v q. stands-next z xs ys j time moment c.args.self.now h due lt _ q.0 v.items
    (λ until le. q.1 (until_then until z) xs ys 0 h.over
    (event z xs ys j time moment c.args.self.now h due lt) (due-sure c.args.self.now.growth moment due)
    (next-at z xs ys j time moment c.args.self.now h due lt until)
    (known-at z xs ys j time moment c.args.self.now h due lt until le c.args.end none) (h.is_after until le)))
    c.decide-found.ensures.decides

pub returns-clause-ends : goal.returns-clause-ends
returns-clause-ends c z xs ys j moment is due h =
    if-ok-on c.decide-found.result (λ v q. ends-next z xs ys j moment c.args.self.now h due _ q.0 v.items
    (q.1 z xs (uncut z ys) (Cut z xs ys j moment c.args.self.now h due) h.over
    (last-event z xs ys j moment c.args.self.now h due) (due-sure c.args.self.now.growth moment due)
    (last-next z xs ys j moment c.args.self.now h due) (known-last z xs ys j moment c.args.self.now h due c.args.end
    is) h.is_after))
    c.decide-found.ensures.decides

pub returns-clause-refused : goal.returns-clause-refused
returns-clause-refused c z xs ys j time h =
    on-err c.decide-found.result (λ s. stands-same z xs ys j time c.args.self.now _ h s) c.decide-found.ensures.refused

pub returns-clause-refused_then : goal.returns-clause-refused_then
returns-clause-refused_then c z xs ys j h =
    on-err c.decide-found.result (λ s. ending-same z xs ys j c.args.self.now _ h s) c.decide-found.ensures.refused

pub returns-clause-due_then : goal.returns-clause-due_then
returns-clause-due_then c = on-err c.decide-found.result (λ s. due-same c.args.self.now.growth _ s)
    c.decide-found.ensures.refused

pub returns-clause-less : goal.returns-clause-less
returns-clause-less c moment due = c.decide-found.ensures.less moment due
