use Rattle.std.proofs.Common.{◌≡◌, ◌≤◌, ◌-◌, length}
use Rattle.afdx_frame.specs.Folding.{after_rest}
use Rattle.afdx_frame.proofs.folding.fold.Given as goal

abbrev pub invariant-loop-taken : goal.invariant-loop-taken
invariant-loop-taken l =
    record {
      within : l.taken ≤ length l.bytes;
      same : after_rest l.bytes l.taken l.register ≡ after_rest l.bytes 0 0xffff_ffff;
    }

abbrev pub decreases-loop-taken : goal.decreases-loop-taken
decreases-loop-taken l = length l.bytes - l.taken
