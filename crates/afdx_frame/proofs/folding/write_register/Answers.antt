use Rattle.std.proofs.Common.{◌∙◌, arith}
use Rattle.afdx_frame.proofs.JointLemmas.{register-written, none-behind}
use Rattle.afdx_frame.proofs.folding.write_register.Goals as goal

pub returns-clause-front : goal.returns-clause-front
returns-clause-front c =
    register-written c.copy_from_slice.new.self c.args.window.now c.args.register (omega arith)
    (c.copy_from_slice.ensures.after ∙ c.to_le_bytes.ensures) c.requires.fresh

pub returns-clause-fresh : goal.returns-clause-fresh
returns-clause-fresh c =
    none-behind c.copy_from_slice.new.self c.args.window.now c.args.register
    (c.copy_from_slice.ensures.after ∙ c.to_le_bytes.ensures) c.requires.fresh
