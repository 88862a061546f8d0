use Rattle.std.proofs.Common.{◌∙◌}
use Rattle.afdx_frame.proofs.JointLemmas.{zeros-none, joint-first, none_further}
use Rattle.afdx_frame.proofs.folding.fold_piece.Goals as goal

pub write_register-requires-clause-fresh : goal.write_register-requires-clause-fresh
write_register-requires-clause-fresh c = zeros-none 1696

pub fold_blocks-requires-clause-fresh : goal.fold_blocks-requires-clause-fresh
fold_blocks-requires-clause-fresh c = none_further 4 296 c.write_register.new.window c.write_register.ensures.fresh

pub returns : goal.returns
returns c =
    c.take_back.ensures ∙ c.fold_blocks.ensures.same
    ∙ joint-first c.args.bytes.now c.write_register.new.window c.args.register c.write_register.ensures.front
    c.write_register.ensures.fresh
