use Rattle.afdx_receive.proofs.KeptLemmas.{first_kept, none_kept}
use Rattle.afdx_receive.proofs.links.Links.new.Goals as goal

pub invariant_of-result : goal.invariant_of-result
invariant_of-result c = first_kept c.new.result _ c.new.ensures.none c.new.ensures.count c.new-2.ensures.items

pub returns-clause-none : goal.returns-clause-none
returns-clause-none c = none_kept c.new.result _ c.new.ensures.none c.new.ensures.count c.new-2.ensures.items
