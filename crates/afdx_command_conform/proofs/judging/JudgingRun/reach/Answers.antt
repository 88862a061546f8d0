use Rattle.std.proofs.Common.{false}
use Rattle.afdx_command_conform.proofs.AddedLemmas.{on-ok}
use Rattle.afdx_command_conform.proofs.BegunLemmas.{goes-past}
use Rattle.afdx_command_conform.proofs.HoldingLemmas.{told-window}
use Rattle.afdx_command_conform.proofs.judging.JudgingRun.reach.Goals as goal

pub returns-clause-stands : goal.returns-clause-stands
returns-clause-stands c k before frames dues le latest h =
    let mid = c.in_ok-close_before.ensures k before frames dues le latest h in
    c.collect.ensures.stands k false c.args.time c.args.time frames dues
    (goes-past k c.args.time c.close_before.new.self _ frames mid.1) mid

pub returns-clause-held : goal.returns-clause-held
returns-clause-held c k before until frames dues le latest running may h =
    let mid = c.in_ok-close_before.ensures k before frames dues le latest h in
    on-ok (told-window k false c.args.time until frames _ c.collect.new.self running may) c.collect.result
    (c.collect.ensures.stands k false c.args.time c.args.time frames dues
    (goes-past k c.args.time c.close_before.new.self _ frames mid.1) mid)
