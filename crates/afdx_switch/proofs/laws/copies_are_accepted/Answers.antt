use Rattle.afdx_switch.proofs.HopLemmas.{copies-accepted, none-dropped}
use Rattle.afdx_switch.proofs.laws.copies_are_accepted.Goals as goal

pub returns : goal.returns
returns c = record { accepted = copies-accepted; by_tables = none-dropped }
