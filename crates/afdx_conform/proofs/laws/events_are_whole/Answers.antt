use Rattle.afdx_conform.proofs.EventLemmas.{events_join, events_whole}
use Rattle.afdx_conform.proofs.laws.events_are_whole.Goals as goal

pub returns : goal.returns
returns c = record { whole = events_whole; join = events_join }
