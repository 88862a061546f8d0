use Rattle.std.proofs.Common.{ap, take, drop, ◌-◌}
use Rattle.afdx_input_lines.specs.Lines.{latest_line}
use Rattle.afdx_input_lines.proofs.line_reader.LineReader.line.Goals as goal

pub returns : goal.returns
unfolding latest_line
returns c = ap (λ items. take (c.args.self.now.line_end - c.args.self.now.line_start)
    (drop c.args.self.now.line_start items)) c.deref.ensures.value
