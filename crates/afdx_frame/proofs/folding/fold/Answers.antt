use Rattle.std.proofs.Common.{◌+◌, ◌*◌, ◌∙◌, ap, arith, sym, ℕ}
use Rattle.afdx_frame.specs.Folding.{after_rest}
use Rattle.afdx_frame.proofs.JointLemmas.{rest-further}
use Rattle.afdx_frame.proofs.folding.fold.Goals as goal

pub loop-taken-preserved : goal.loop-taken-preserved
loop-taken-preserved c = record {
  within = omega arith;
  same =
      sym (rest-further c.args.bytes.now c.loop-taken.taken (c.min-blocks.result * 16 + 304)
      c.fold_piece-register.result)
      ∙ c.fold_piece-register.ensures
      ∙ rest-further c.args.bytes.now c.loop-taken.taken 0 c.loop-taken.register
      ∙ ap (λ (n : ℕ). after_rest c.args.bytes.now n c.loop-taken.register) (omega arith)
      ∙ c.loop-taken.invariant.same;
}
