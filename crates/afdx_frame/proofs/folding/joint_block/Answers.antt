use Rattle.std.proofs.Common.{refl}
use Rattle.afdx_frame.specs.Folding.{joint_block}
use Rattle.afdx_frame.proofs.folding.joint_block.Goals as goal

pub returns : goal.returns
unfolding joint_block
returns c = refl
