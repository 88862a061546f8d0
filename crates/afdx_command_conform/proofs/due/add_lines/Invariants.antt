use Rattle.std.proofs.Common.{◌≡◌, ◌++◌, map, take}
use Rattle.afdx_command_conform.specs.Lines.{due_at}
use Rattle.afdx_command_conform.proofs.due.add_lines.Given as goal

abbrev pub invariant-loop-line : goal.invariant-loop-line
invariant-loop-line l =
    l.due.items ≡ l.fn.due.items ++ map (due_at l.key l.moment) (take l.line-index l.lines)
