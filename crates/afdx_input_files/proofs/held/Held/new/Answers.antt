use Rattle.std.proofs.Common.{refl}
use Rattle.afdx_input_files.specs.Holding.{unread, lent}
use Rattle.afdx_input_files.proofs.held.Held.new.Goals as goal

pub returns-clause-unread : goal.returns-clause-unread
unfolding unread
returns-clause-unread c = refl

pub returns-clause-lent : goal.returns-clause-lent
unfolding lent
returns-clause-lent c = refl
