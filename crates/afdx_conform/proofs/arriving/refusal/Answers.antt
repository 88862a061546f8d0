use Rattle.std.proofs.Common.{Bool, sym, ap, ◌∙◌}
use Rattle.afdx_conform.proofs.ArrivalSteps.{mark-by}
use Rattle.afdx_conform.proofs.arriving.refusal.Goals as goal

pub returns-then-may_go_once : goal.returns-then-may_go_once
returns-then-may_go_once c z ys last r j ns =
    sym (ap (λ (b : Bool). mark-by b) (sym (c.may_go_once.ensures z ys last r j ns) ∙ c.if-may_go_once.true))

pub returns-else-may_go_once : goal.returns-else-may_go_once
returns-else-may_go_once c z ys last r j ns =
    sym (ap (λ (b : Bool). mark-by b) (sym (c.may_go_once.ensures z ys last r j ns) ∙ c.if-may_go_once.false))
