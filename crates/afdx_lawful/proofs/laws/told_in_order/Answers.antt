use Rattle.afdx_lawful.proofs.OrderLemmas as lemma
use Rattle.afdx_lawful.proofs.laws.told_in_order.Goals as goal

pub returns : goal.returns
returns c = lemma.told_in_order
