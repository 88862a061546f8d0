use Rattle.afdx_conform.proofs.HidingLemmas.{what_passed}
use Rattle.afdx_conform.proofs.laws.what_passed_keeps_windows.Goals as goal

pub returns : goal.returns
returns c = what_passed
