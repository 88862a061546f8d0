use Rattle.std.proofs.Common.{ap, ◌∙◌}
use Rattle.afdx_conform.specs.Leeway.{Leeway}
use Rattle.afdx_conform.specs.Limits.{gone_of}
use Rattle.afdx_conform.proofs.FirstLemmas.{begun-none, begun-some}
use Rattle.afdx_conform.proofs.first.is_begun.Goals as goal

pub returns-in-None : goal.returns-in-None
returns-in-None c z a by = begun-none z (gone_of c.args.frame.now) (ap (λ (b : Leeway). b.start) by ∙ c.in-None.is)

pub returns-in-Some : goal.returns-in-Some
returns-in-Some c z a by =
    begun-some z (gone_of c.args.frame.now) c.args.limits.now c.in-Some.start a (ap (λ (b : Leeway). b.start) by
    ∙ c.in-Some.is)
