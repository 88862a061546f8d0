use Rattle.std.proofs.Common.{◌≡◌, ◌++◌}
use Rattle.std.specs.Prelude.{string_bytes}
use Rattle.afdx_command_tables.specs.SolveText.{needs_at_first}
use Rattle.afdx_command_tables.proofs.solve_needs.put_needs.Given as goal

abbrev pub invariant-loop-count : goal.invariant-loop-count
invariant-loop-count l = string_bytes l.text
    ≡ string_bytes l.fn.text ++ needs_at_first l.switch l.tables l.asked l.count
