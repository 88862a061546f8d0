use Rattle.afdx_frame.proofs.BuiltLemmas.{built_is_computed}
use Rattle.afdx_frame.proofs.laws.built_is_computed.Goals as goal

pub returns : goal.returns
returns c = built_is_computed
