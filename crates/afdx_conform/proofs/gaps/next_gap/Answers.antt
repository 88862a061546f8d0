use Rattle.afdx_conform.proofs.GapLemmas.{gap-on}
use Rattle.afdx_conform.proofs.gaps.next_gap.Goals as goal

pub returns-clause-gap : goal.returns-clause-gap
returns-clause-gap c test xs long h before =
    gap-on c.args.wanted test c.args.gap c.args.from c.start_in-start.result c.next_wanted-to.result xs c.args.marks.now
    c.start_in-start.ensures.known before
    (c.next_wanted-to.ensures test xs c.start_in-start.result long (c.no_less-later.ensures test xs h))
