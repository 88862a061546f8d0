use Rattle.afdx_police.proofs.SpacedLemmas.{spaced_accepted, regular_spaced, spaced_is_regular}
use Rattle.afdx_police.proofs.laws.spaced_is_accepted.Goals as goal

pub returns : goal.returns
returns c = record { accepted = spaced_accepted; regular = regular_spaced; moments = spaced_is_regular }
