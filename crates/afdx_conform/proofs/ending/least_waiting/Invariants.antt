use Rattle.std.proofs.Common.{◌≡◌, List, map, take}
use Rattle.afdx_conform.specs.HeldStates.{state_of}
use Rattle.afdx_conform.specs.Histories.{least_from}
use Rattle.afdx_conform.specs.Streams.{Gone}
use Rattle.afdx_conform.proofs.ending.least_waiting.Given as goal

abbrev pub invariant-loop-state : goal.invariant-loop-state
invariant-loop-state l = (ys : List Gone) →
    l.least ≡ least_from l.initial.least (map (state_of ys) (take l.state-index l.held))
