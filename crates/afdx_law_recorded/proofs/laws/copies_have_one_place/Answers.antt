use Rattle.afdx_law_recorded.proofs.PairLemmas.{quiet_in_pairs, quiet_numbered, uncut_in_pairs}
use Rattle.afdx_law_recorded.proofs.laws.copies_have_one_place.Goals as goal

pub returns : goal.returns
returns c = record { pairs = quiet_in_pairs; all = uncut_in_pairs; numbers = quiet_numbered }
