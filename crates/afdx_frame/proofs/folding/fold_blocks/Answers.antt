use Rattle.std.proofs.Common.{◌+◌, ◌*◌, ◌∙◌, ap, arith, refl, ℕ}
use Rattle.std.specs.Simd.Lanes.{put_chunk}
use Rattle.afdx_frame.specs.Folding.{number_from, joined}
use Rattle.afdx_frame.proofs.JointLemmas.{Folded, folded}
use Rattle.afdx_frame.proofs.folding.fold_blocks.Goals as goal

pub loop-block-init : goal.loop-block-init
loop-block-init c = record {
  bytes = λ i. omega (arith, c.type_inv.window i);
  fresh = c.requires.fresh;
  same = refl;
}

pub loop-block-preserved : goal.loop-block-preserved
loop-block-preserved c =
    let f : Folded c.args.bytes.now c.loop-block.window
    (put_chunk (c.loop-block.block * 16 + 300) c.loop-block.window c.joint_block.result)
    (c.loop-block.block * 16) ((c.loop-block.block + 1) * 16) =
    folded c.args.bytes.now c.loop-block.window _ (c.loop-block.block * 16) _
    (λ i. omega (arith, c.type_inv.bytes i)) c.loop-block.invariant.bytes (omega arith) (omega arith)
    c.loop-block.invariant.fresh
    (ap (put_chunk (c.loop-block.block * 16 + 300) c.loop-block.window) c.joint_block.ensures)
    (omega arith) in
    record {
      bytes = f.still;
      fresh = f.fresh;
      same = f.same ∙ c.loop-block.invariant.same;
    }

pub returns-clause-fresh : goal.returns-clause-fresh
returns-clause-fresh c = ap (λ (n : ℕ). number_from c.loop-block.window (n * 16 + 300)) (omega arith)
    ∙ c.loop-block.invariant.fresh

pub returns-clause-same : goal.returns-clause-same
returns-clause-same c =
    ap (λ (n : ℕ). joined c.args.bytes.now c.loop-block.window (n * 16) 0) (omega arith)
    ∙ c.loop-block.invariant.same
