use Rattle.afdx_switch.proofs.LawLemmas.{links-in-order}
use Rattle.afdx_switch.proofs.laws.links_go_in_order.Goals as goal

pub returns : goal.returns
returns c = λ t side w h port vl lawful. links-in-order t side w h port vl lawful
