use Rattle.afdx_cascade.proofs.laws.switches_are_a_plan.Goals as goal
use Rattle.afdx_cascade.proofs.PlanLemmas.{switches-plan}

pub returns : goal.returns
returns c = switches-plan
