use Rattle.std.proofs.Common.{[], ◌∙◌}
use Rattle.std.specs.Prelude.{string_bytes}
use Rattle.afdx_config.specs.Asked.{lists}
use Rattle.afdx_command_tables.specs.SolveText.{needs_of_switch}
use Rattle.afdx_command_tables.proofs.BelowLemmas.{below-none, below-next}
use Rattle.afdx_command_tables.proofs.solve_needs.needs_of_cascade.Goals as goal

pub loop-k-init : goal.loop-k-init
loop-k-init c =
    c.new-text.ensures.bytes ∙ below-none (needs_of_switch c.args.switches.now (lists c.args.asked.now)) []

pub loop-k-preserved : goal.loop-k-preserved
loop-k-preserved c =
    below-next (needs_of_switch c.args.switches.now (lists c.args.asked.now)) c.loop-k.k []
    (string_bytes c.loop-k.text) _
    c.loop-k.invariant c.in_ok-put_needs_of_switch.ensures
