use Rattle.std.proofs.Common.{arith}
use Rattle.afdx_input_files.specs.Holding.{unread}
use Rattle.afdx_input_lines.proofs.ReaderLemmas.{moved_to_front}
use Rattle.afdx_input_files.proofs.held.Held.move_to_front.Goals as goal

pub returns-clause-unread : goal.returns-clause-unread
unfolding unread
returns-clause-unread c =
    let held = c.args.self.now in
    moved_to_front held.chunk.items c.copy_within.new.self.items held.start held.end
    held.ordered (omega (arith, held.within, held.chunk.ok.0)) c.copy_within.ensures.items
