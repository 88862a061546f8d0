use Rattle.afdx_law_bounds.proofs.TableLemmas.{port-of-system}
use Rattle.afdx_law_bounds.proofs.laws.ports_are_of_systems.Goals as goal

pub returns : goal.returns
returns c = λ t system s lawful at. port-of-system t system s lawful at
