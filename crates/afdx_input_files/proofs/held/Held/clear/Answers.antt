use Rattle.std.proofs.Common.{refl}
use Rattle.afdx_input_files.specs.Holding.{unread}
use Rattle.afdx_input_files.proofs.held.Held.clear.Goals as goal

pub returns-clause-unread : goal.returns-clause-unread
unfolding unread
returns-clause-unread c = refl
