use Rattle.afdx_receive.proofs.DeliveryLemmas.{delivered_once}
use Rattle.afdx_receive.proofs.laws.sent_is_delivered_once.Goals as goal

pub returns : goal.returns
returns c = delivered_once
