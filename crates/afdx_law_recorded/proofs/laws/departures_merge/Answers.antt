use Rattle.afdx_law_recorded.proofs.MergeLemmas.{departures_merge}
use Rattle.afdx_law_recorded.proofs.laws.departures_merge.Goals as goal

pub returns : goal.returns
returns c = departures_merge
