use Rattle.std.proofs.Common.{◌≡◌, ◌+◌, ◌*◌}
use Rattle.afdx_frame.specs.Folding.{number_from, joined}
use Rattle.afdx_frame.specs.Sealing.{AreBytes}
use Rattle.afdx_frame.proofs.folding.fold_blocks.Given as goal

abbrev pub invariant-loop-block : goal.invariant-loop-block
invariant-loop-block l =
    record {
      bytes : AreBytes l.window;
      fresh : number_from l.window (l.block * 16 + 300) ≡ 0;
      same : joined l.bytes l.window (l.block * 16) 0 ≡ joined l.bytes l.fn.window 0 0;
    }
