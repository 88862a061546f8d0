use Rattle.std.proofs.Common.{replicate, subst, sym}
use Rattle.afdx_lawful.specs.Rings.{AreWaiting}
use Rattle.afdx_lawful.proofs.WaitingLemmas.{new_waiting}
use Rattle.afdx_lawful.proofs.waiting_frames.WaitingFrames.new.Goals as goal

pub invariant_of-result : goal.invariant_of-result
invariant_of-result c =
    subst (λ slots. AreWaiting slots 0 (replicate 256 0) 0) (sym c.new.ensures.items) new_waiting
