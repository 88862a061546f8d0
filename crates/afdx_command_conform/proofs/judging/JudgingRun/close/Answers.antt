use Rattle.std.proofs.Common.{false, refl, ◌∙◌, arith}
use Rattle.afdx_command_conform.proofs.FullLemmas.{behind-later, stands-ended}
use Rattle.afdx_command_conform.proofs.ToldLemmas.{works-same}
use Rattle.afdx_command_conform.proofs.BegunLemmas.{goes-on}
use Rattle.afdx_command_conform.proofs.JoinLemmas.{counted-behind}
use Rattle.afdx_command_conform.proofs.judging.JudgingRun.close.Goals as goal

pub returns : goal.returns
returns c k after time to frames dues le-until le-to le-latest may said ending none h =
    let mid = (c.in_ok-collect.ensures.stands k false time c.args.until frames dues
    (goes-on k time c.args.until c.args.self.now.streams.ended frames le-until said none) h).0 in
    let now-none = c.collect.ensures.ended ∙ none in (
      (
        works-same k frames c.collect.new.self _ _ c.end.ensures.rules refl refl refl refl mid.0,
        stands-ended k frames after c.args.until c.args.until to c.collect.new.self _ _ (omega arith) le-to
            le-latest may ending
            now-none c.end.ensures.ended
            (λ s. c.end.ensures.stands k.0 k.1 c.args.until frames _ (omega arith) now-none
            (counted-behind k.0 k.1 frames c.args.until (behind-later frames c.args.until le-latest mid.1.by_time)) s)
            mid.1,
      ),
      c.end.ensures.ended,
    )
