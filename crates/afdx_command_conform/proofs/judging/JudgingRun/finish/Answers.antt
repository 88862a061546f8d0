use Rattle.std.proofs.Common.{true, ◌∙◌, ap}
use Rattle.std.specs.Prelude.{is_some}
use Rattle.afdx_command_conform.proofs.BegunLemmas.{goes-last}
use Rattle.afdx_command_conform.proofs.EndLemmas.{ends-all, known-end}
use Rattle.afdx_command_conform.proofs.judging.JudgingRun.finish.Goals as goal

pub returns : goal.returns
returns c k frames dues h =
    let mid = c.in_ok-close_at_end.ensures k frames dues h in
    let known = known-end c.close_at_end.new.self.streams.ended mid.2 in
    ends-all c.collect.result k c.collect.new.self frames _ mid.0
    (ap (λ o. is_some o) c.collect.ensures.ended ∙ mid.2)
    (c.collect.ensures.stands k true mid.0 mid.0 frames dues
    (goes-last k mid.0 c.close_at_end.new.self _ frames known.0 known.1 mid.1.1) mid.1)
