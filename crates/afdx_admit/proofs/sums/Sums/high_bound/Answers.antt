use Rattle.std.proofs.Common.{◌∙◌}
use Rattle.afdx_admit.proofs.RateLemmas.{high-bound}
use Rattle.afdx_admit.proofs.sums.Sums.high_bound.Goals as goal

pub returns : goal.returns
returns c = λ o s. c.div_ceil.ensures ∙ high-bound o c.args.self.now s c.high_wait.result (c.high_wait.ensures o s)
