use Rattle.std.proofs.Common.{arith, sym, ◌*◌, ◌/◌}
use Rattle.afdx_input_files.proofs.StampLemmas.{words_fit, none_of_fine}
use Rattle.afdx_input_files.proofs.stamp.fine_ns.Goals as goal

pub returns-else-n-lt64 : goal.returns-else-n-lt64
returns-else-n-lt64 c = sym (none_of_fine (c.args.ticks * 1000000000 / 4294967296) c.args.n
    (words_fit c.args.ticks c.ranges.ticks.fits) (omega (arith, c.if-n-lt64.false)))
