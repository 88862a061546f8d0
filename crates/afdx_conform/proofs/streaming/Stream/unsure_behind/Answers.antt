use Rattle.std.proofs.Common.{ap, ◌∙◌, arith}
use Rattle.afdx_conform.specs.Findings.{Judged}
use Rattle.afdx_conform.specs.Histories.{unsure_in}
use Rattle.afdx_conform.proofs.streaming.Stream.unsure_behind.Goals as goal

pub returns-clause-stands : goal.returns-clause-stands
returns-clause-stands c z xs ys j time h =
    (h.is_after time (omega arith)).tag ∙ ap (λ (k : Judged). unsure_in k) (h.judged time (omega arith))

pub returns-clause-ends : goal.returns-clause-ends
returns-clause-ends c z xs ys j h = h.is_after.tag ∙ ap (λ (k : Judged). unsure_in k) h.judged
