use Rattle.std.proofs.Common.{◌+◌, ◌*◌, ◌∙◌, ap, arith, sym, ℕ, List, take, drop}
use Rattle.std.specs.Prelude.{bit_xor}
use Rattle.afdx_frame.specs.Register.{shift, number}
use Rattle.afdx_frame.specs.Folding.{number_from, joined}
use Rattle.afdx_frame.proofs.JointLemmas.{taken_back, joint-last, none_further}
use Rattle.afdx_frame.proofs.folding.take_back.Goals as goal

pub loop-block-init : goal.loop-block-init
loop-block-init c = ap (λ (n : ℕ). joined c.args.bytes.now c.args.window.now n 0) (omega arith)

pub loop-block-preserved : goal.loop-block-preserved
loop-block-preserved c =
    ap (λ (n : ℕ). joined c.args.bytes.now c.args.window.now n c.block_step-register.result) (omega arith)
    ∙ taken_back c.args.bytes.now c.args.window.now (c.args.from + c.loop-block.block * 16) c.loop-block.register
    c.block_step.result c.block_step-register.result (λ i. omega (arith, c.type_inv.bytes i))
    (λ i. omega (arith, c.type_inv.window i)) (omega arith) (omega arith)
    (c.block_step.ensures
    ∙ ap (λ (l : List ℕ). shift 64 (bit_xor c.loop-block.register (number (take 8 l)))) c.joint_block.ensures)
    (c.block_step-register.ensures
    ∙ ap (λ (l : List ℕ). shift 64 (bit_xor c.block_step.result (number (take 8 (drop 8 l))))) c.joint_block.ensures)
    ∙ c.loop-block.invariant

pub returns : goal.returns
returns c =
    sym (joint-last c.args.bytes.now c.args.window.now (c.args.from + 304) c.loop-block.register
    (ap (number_from c.args.window.now) (omega arith)
    ∙ none_further (c.args.from + 300) 4 c.args.window.now c.requires.fresh))
    ∙ ap (λ (n : ℕ). joined c.args.bytes.now c.args.window.now n c.loop-block.register) (omega arith)
    ∙ c.loop-block.invariant
