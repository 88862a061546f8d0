use Rattle.afdx_conform.proofs.StandingLemmas.{stands-later}
use Rattle.afdx_conform.proofs.streaming.Stream.due.Goals as goal

pub returns-clause-later : goal.returns-clause-later
returns-clause-later c z xs ys j time other le h = stands-later z xs ys j time c.args.self.now c.args.self.now h other
    le
