use Rattle.std.proofs.Common.{sym}
use Rattle.afdx_input_files.proofs.HeldLemmas.{unread_length}
use Rattle.afdx_input_files.proofs.held.Held.count.Goals as goal

pub returns : goal.returns
returns c = sym (unread_length c.args.self.now)
