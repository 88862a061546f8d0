use Rattle.std.proofs.Common.{◌∙◌}
use Rattle.afdx_command_conform.proofs.AddedLemmas.{kept-none}
use Rattle.afdx_command_conform.proofs.kept.KeptByKey.new.Goals as goal

pub returns : goal.returns
returns c t c' until time count =
    kept-none t c' until time _ (c.in_ok-slots.ensures.count ∙ count) c.in_ok-slots.ensures.nothing c.new.ensures
