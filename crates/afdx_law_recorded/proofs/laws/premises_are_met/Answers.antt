use Rattle.afdx_law_recorded.proofs.ExampleLemmas.{cut_met, premises_met}
use Rattle.afdx_law_recorded.proofs.NeededLemmas.{each_needed}
use Rattle.afdx_law_recorded.proofs.WholeLemmas.{whole_met}
use Rattle.afdx_law_recorded.proofs.laws.premises_are_met.Goals as goal

pub returns : goal.returns
returns c = record { met = premises_met; cut = cut_met; whole = whole_met; needed = each_needed }
