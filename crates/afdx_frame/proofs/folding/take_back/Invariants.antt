use Rattle.std.proofs.Common.{◌≡◌, ◌+◌, ◌*◌}
use Rattle.afdx_frame.specs.Folding.{joined}
use Rattle.afdx_frame.proofs.folding.take_back.Given as goal

abbrev pub invariant-loop-block : goal.invariant-loop-block
invariant-loop-block l =
    joined l.bytes l.window (l.from + l.block * 16) l.register
    ≡ joined l.bytes l.window l.from 0
