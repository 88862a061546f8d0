use Rattle.afdx_send.proofs.EmitLemmas.{all_subs}
use Rattle.afdx_send.proofs.NextLemmas.{comparable}
use Rattle.afdx_send.proofs.laws.first_releases_agree.Goals as goal

pub returns : goal.returns
returns c = λ w h these those st a b. comparable h.links h.taken these those (all_subs w h st) a b
