use Rattle.std.proofs.Common.{◌≡◌}
use Rattle.std.specs.Prelude.{string_bytes}
use Rattle.afdx_config.specs.Asked.{lists}
use Rattle.afdx_command_tables.specs.CascadeText.{texts_below}
use Rattle.afdx_command_tables.specs.SolveText.{needs_of_switch}
use Rattle.afdx_command_tables.proofs.solve_needs.needs_of_cascade.Given as goal

abbrev pub invariant-loop-k : goal.invariant-loop-k
invariant-loop-k l = string_bytes l.text ≡ texts_below (needs_of_switch l.switches (lists l.asked)) l.k
