use Rattle.std.proofs.Common.{sym, ◌∙◌}
use Rattle.afdx_command_conform.proofs.NamedLemmas.{named_whole}
use Rattle.afdx_command_conform.proofs.whole.vl_named.Goals as goal

pub returns : goal.returns
returns c =
    c.vl_of.ensures.computed
    ∙ sym (named_whole c.args.frame.seal c.args.frame.message.now c.if-frame-lt-ADDRESS.false)
