use Rattle.afdx_switch.proofs.StreamLemmas.{stream-is-regular, stream-accepted}
use Rattle.afdx_switch.proofs.laws.stream_is_accepted.Goals as goal

pub returns-clause-regular : goal.returns-clause-regular
returns-clause-regular c = stream-is-regular c.built_is_computed.ensures

pub returns-clause-accepted : goal.returns-clause-accepted
returns-clause-accepted c = stream-accepted c.built_is_computed.ensures
