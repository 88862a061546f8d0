use Rattle.afdx_input_files.proofs.StampLemmas.{split_shifted, sum_is}
use Rattle.afdx_input_files.proofs.stamp.coarse_ns.Goals as goal

pub returns-in-Some : goal.returns-in-Some
returns-in-Some c = sum_is _ _ _ _ _ c.in-Some.ensures.1 (split_shifted c.args.ticks c.args.n c.requires)
    c.checked_add.ensures
