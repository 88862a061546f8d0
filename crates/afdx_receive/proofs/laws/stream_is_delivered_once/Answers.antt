use Rattle.afdx_receive.proofs.OnceLemmas.{stream_delivered_once}
use Rattle.afdx_receive.proofs.laws.stream_is_delivered_once.Goals as goal

pub returns : goal.returns
returns c = stream_delivered_once c.built_is_computed.ensures
