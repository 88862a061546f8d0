use Rattle.std.proofs.Common.{refl}
use Rattle.afdx_input_lines.specs.Lines.{unread}
use Rattle.afdx_input_lines.proofs.line_reader.LineReader.new.Goals as goal

pub returns-clause-unread : goal.returns-clause-unread
unfolding unread
returns-clause-unread c = refl
