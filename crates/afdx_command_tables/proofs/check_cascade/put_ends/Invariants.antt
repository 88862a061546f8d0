use Rattle.std.proofs.Common.{◌≡◌, ◌++◌}
use Rattle.afdx_text.specs.Texts.{text_bytes}
use Rattle.afdx_command_tables.specs.CascadeText.{texts_below, switch_ends}
use Rattle.afdx_command_tables.proofs.check_cascade.put_ends.Given as goal

abbrev pub invariant-loop-k : goal.invariant-loop-k
invariant-loop-k l = text_bytes l.text
    ≡ text_bytes l.fn.text ++ texts_below (switch_ends l.switches) l.k
