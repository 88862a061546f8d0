use Rattle.std.proofs.Common.{◌∙◌}
use Rattle.afdx_frame.proofs.JointLemmas.{rest-whole}
use Rattle.afdx_frame.proofs.folding.after_long.Goals as goal

pub returns : goal.returns
returns c =
    c.after_bytes.ensures
    ∙ rest-whole c.args.bytes.now c.fold-front.result.1 c.fold-front.result.0 0xffff_ffff c.fold-front.ensures.same
