use Rattle.afdx_conform.proofs.ClosedLemmas.{guessed}
use Rattle.afdx_conform.proofs.closing.closed_by.Goals as goal

pub returns-then-is_end-clause-closed : goal.returns-then-is_end-clause-closed
returns-then-is_end-clause-closed c order k f low less at =
    let yes = c.if-is_end.true in
    guessed c.args.frames.now c.args.from c.args.guess c.args.time (c.is_end.ensures.low yes)
    (c.is_end.ensures.high yes)
    (λ v is. c.is_end.ensures.closed v yes is) order k f less at
