use Rattle.std.proofs.Common.{◌≤◌, arith}
use Rattle.afdx_conform.proofs.StandingEnds.{ends}
use Rattle.afdx_conform.proofs.streaming.Stream.end.Goals as goal

pub returns-clause-ends : goal.returns-clause-ends
returns-clause-ends c z xs ys j time until le h =
    let more : time ≤ z.until = omega (arith, until, le) in
    ends z xs ys j time c.args.self.now _ h more
    (c.end.ensures.after z xs ys time h.over until le h.before (h.is_after z.until more)) h.before

pub returns-clause-due_same : goal.returns-clause-due_same
returns-clause-due_same c z xs ys j time until le all h =
    let more : time ≤ z.until = omega (arith, until, le) in
    c.end.ensures.due_same z xs ys h.over until all (h.is_after z.until more)
