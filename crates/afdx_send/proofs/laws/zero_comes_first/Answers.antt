use Rattle.afdx_send.proofs.NumberLemmas.{zero-comes-first}
use Rattle.afdx_send.proofs.laws.zero_comes_first.Goals as goal

pub returns : goal.returns
returns c = zero-comes-first c.built_is_computed.ensures
