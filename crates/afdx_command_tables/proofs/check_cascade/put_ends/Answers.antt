use Rattle.afdx_text.specs.Texts.{text_bytes}
use Rattle.afdx_command_tables.specs.CascadeText.{switch_ends}
use Rattle.afdx_command_tables.proofs.BelowLemmas.{below-none, below-next}
use Rattle.afdx_command_tables.proofs.check_cascade.put_ends.Goals as goal

pub loop-k-init : goal.loop-k-init
loop-k-init c = below-none (switch_ends c.args.switches.now) (text_bytes c.args.text.now)

pub loop-k-preserved : goal.loop-k-preserved
loop-k-preserved c =
    below-next (switch_ends c.args.switches.now) c.loop-k.k (text_bytes c.args.text.now) (text_bytes c.loop-k.text) _
    c.loop-k.invariant c.in_ok-put_switch_ends.ensures
