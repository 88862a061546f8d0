use Rattle.afdx_law_text.proofs.PromisedLemmas.{kept-leave}
use Rattle.afdx_law_text.proofs.StreamLemmas.{are-right}
use Rattle.afdx_law_text.proofs.laws.promised_is_right.Goals as goal

pub returns-clause-leave : goal.returns-clause-leave
returns-clause-leave c = kept-leave

pub returns-clause-right : goal.returns-clause-right
returns-clause-right c = λ t c taps until arrivals left frames lawful timed promised sees recorded ended.
    are-right t c taps until lawful arrivals timed left promised frames sees recorded ended
