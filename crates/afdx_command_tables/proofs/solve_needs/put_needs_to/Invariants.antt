use Rattle.std.proofs.Common.{◌≡◌, ◌++◌}
use Rattle.std.specs.Prelude.{string_bytes}
use Rattle.afdx_command_tables.specs.SolveText.{needs_of_first}
use Rattle.afdx_command_tables.proofs.solve_needs.put_needs_to.Given as goal

abbrev pub invariant-loop-i : goal.invariant-loop-i
invariant-loop-i l = string_bytes l.text
    ≡ string_bytes l.fn.text ++ needs_of_first l.at.switch.now l.tables l.asked l.at.port l.at.end.0 l.i
