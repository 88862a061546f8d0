use Rattle.afdx_cascade.proofs.laws.accepted_at_most_listed.Goals as goal
use Rattle.afdx_cascade.proofs.OnceLemmas.{at-most-listed, line-once}
use Rattle.afdx_cascade.proofs.FewLemmas.{events-few}

pub returns : goal.returns
returns c = record { any = at-most-listed; line = line-once; few = events-few }
