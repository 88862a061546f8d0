use Rattle.afdx_police.proofs.DelayLemmas.{delayed-accepted, refused-later}
use Rattle.afdx_police.proofs.laws.delayed_are_accepted.Goals as goal

pub returns : goal.returns
returns c = record { all = delayed-accepted; needed = refused-later }
