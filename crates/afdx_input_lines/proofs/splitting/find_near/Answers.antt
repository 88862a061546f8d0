use Rattle.std.proofs.Common.{arith}
use Rattle.afdx_input_lines.proofs.SplitLemmas.{found_behind, none_by_parts}
use Rattle.afdx_input_lines.proofs.splitting.find_near.Goals as goal

pub returns-in-Some-find_far : goal.returns-in-Some-find_far
returns-in-Some-find_far c =
    found_behind c.args.byte c.min-near.result c.args.text.now c.in-Some-find_far.at
    (omega (arith, c.min-near.ensures)) c.in_default.ensures c.in-Some-find_far.ensures

pub returns-in-None : goal.returns-in-None
returns-in-None c =
    none_by_parts c.args.byte c.min-near.result c.args.text.now
    (omega (arith, c.min-near.ensures)) c.in_default.ensures c.in-None.ensures
