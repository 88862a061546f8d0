use Rattle.std.proofs.Common.{subst}
use Rattle.afdx_command_conform.specs.Counting.{HasCounted, both_counted, counted_among, none_counted}
use Rattle.afdx_frame.specs.declared.link.Side.TheVariants.{A, B}
use Rattle.afdx_command_conform.proofs.CountingLemmas.{none-both}
use Rattle.afdx_command_conform.proofs.counting.count_streams.Goals as goal

pub returns-clause-counted : goal.returns-clause-counted
returns-clause-counted c c' until frames sight ended has =
    let t = c.args.tables.now in
    let a = counted_among t c' until frames A t.links in
    let b = counted_among t c' until frames B t.links in
    subst (λ n. HasCounted (both_counted n b) c.count_on-2.new.totals) (none-both a)
    (c.count_on-2.ensures.counted c' until frames (both_counted none_counted a) sight ended
    (c.count_on.ensures.counted c' until frames none_counted sight ended has))
