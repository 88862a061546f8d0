use Rattle.std.proofs.Common.{arith}
use Rattle.afdx_lawful.proofs.WaitingLemmas.{few}
use Rattle.afdx_lawful.proofs.waiting_frames.WaitingFrames.count.Goals as goal

pub returns-clause-few : goal.returns-clause-few
returns-clause-few c =
    let w = c.self.inside in
    omega (arith, (few w.slots.items w.first w.from w.count c.self.invariant).1, w.slots.small)
