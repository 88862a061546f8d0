use Rattle.afdx_switch.proofs.LawLemmas.{entries-grow}
use Rattle.afdx_switch.proofs.laws.entries_grow.Goals as goal

pub returns : goal.returns
returns c = λ t side port x past lawful. entries-grow t side port x past lawful
