use Rattle.afdx_conform.proofs.WindowLemmas.{holds_one_window}
use Rattle.afdx_conform.proofs.laws.one_window_is_held.Goals as goal

pub returns : goal.returns
returns c = holds_one_window
