use Rattle.afdx_cascade.proofs.laws.switches_run_alone.Goals as goal
use Rattle.afdx_cascade.proofs.PartLemmas.{begins-alone, runs-alone}

pub returns : goal.returns
returns c = record { so_far = begins-alone; all = runs-alone }
