use Rattle.afdx_text.proofs.OutputLemmas.{kept_appends, none_front, whole_front, on-err}
use Rattle.afdx_text.proofs.output.OutputSink.put.Goals as goal

pub returns-in_err-hold-clause-front : goal.returns-in_err-hold-clause-front
returns-in_err-hold-clause-front g c =
    on-err c.from_residual.result _ (none_front _ _ _ c.in_err-hold.ensures.same)

pub returns-in_err-hand_over-clause-front : goal.returns-in_err-hand_over-clause-front
returns-in_err-hand_over-clause-front g c =
    on-err c.from_residual-in_err-hand_over.result _
    (whole_front _ _ _ (kept_appends _ _ _ _ c.in_ok-hold.ensures.put c.hand_over.ensures.bytes))
