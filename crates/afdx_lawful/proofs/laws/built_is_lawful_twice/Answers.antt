use Rattle.afdx_lawful.proofs.TwoNetworkLemmas.{built_lawful_twice}
use Rattle.afdx_lawful.proofs.laws.built_is_lawful_twice.Goals as goal

pub returns : goal.returns
returns c = built_lawful_twice
