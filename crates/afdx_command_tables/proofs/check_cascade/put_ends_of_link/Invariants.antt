use Rattle.std.proofs.Common.{◌≡◌, ◌++◌}
use Rattle.afdx_text.specs.Texts.{text_bytes}
use Rattle.afdx_command_tables.specs.CascadeText.{texts_below, ends_at}
use Rattle.afdx_command_tables.proofs.check_cascade.put_ends_of_link.Given as goal

abbrev pub invariant-loop-k : goal.invariant-loop-k
invariant-loop-k l = text_bytes l.text
    ≡ text_bytes l.fn.text ++ texts_below (ends_at l.switches l.vl.0) l.k
