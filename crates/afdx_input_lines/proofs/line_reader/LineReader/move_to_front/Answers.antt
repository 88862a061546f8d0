use Rattle.std.proofs.Common.{arith}
use Rattle.afdx_input_lines.specs.Lines.{unread}
use Rattle.afdx_input_lines.proofs.ReaderLemmas.{moved_to_front}
use Rattle.afdx_input_lines.proofs.line_reader.LineReader.move_to_front.Goals as goal

pub returns-clause-unread : goal.returns-clause-unread
unfolding unread
returns-clause-unread c =
    let reader = c.args.self.now in
    moved_to_front reader.chunk.items c.copy_within.new.self.items reader.start reader.end
    reader.ordered (omega (arith, reader.within, reader.chunk.ok.0)) c.copy_within.ensures.items
