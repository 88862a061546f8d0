use Rattle.std.proofs.Common.{arith, ◌+◌}
use Rattle.afdx_input_lines.specs.Lines.{latest_line, unread}
use Rattle.afdx_input_lines.proofs.ReaderLemmas.{front_between, rest_between}
use Rattle.afdx_input_lines.proofs.line_reader.LineReader.take_line.Goals as goal

pub returns-clause-line : goal.returns-clause-line
unfolding latest_line unread
returns-clause-line c = front_between c.args.self.now.chunk.items c.args.self.now.start
    c.args.self.now.end c.args.length (omega (arith, c.requires.within))

pub returns-clause-rest : goal.returns-clause-rest
unfolding unread
returns-clause-rest c = rest_between c.args.self.now.chunk.items c.args.self.now.start
    c.args.self.now.end (c.args.length + c.args.ending) c.requires.within
