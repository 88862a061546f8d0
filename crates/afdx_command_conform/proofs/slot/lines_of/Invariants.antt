use Rattle.std.proofs.Common.{◌≡◌, map, take}
use Rattle.afdx_command_conform.specs.Lines.{found_line}
use Rattle.afdx_command_conform.proofs.slot.lines_of.Given as goal

abbrev pub invariant-loop-finding : goal.invariant-loop-finding
invariant-loop-finding l = l.lines.items ≡ map (found_line l.key) (take l.finding-index l.found)
