use Rattle.std.proofs.Common.{Bool, take}
use Rattle.afdx_conform.specs.KnownBytes.{StandAt}
use Rattle.afdx_conform.specs.declared.arrived.Arrived.{Arrived}
use Rattle.afdx_conform.proofs.known_bytes.each_of.Given as goal

abbrev pub invariant-loop-place : goal.invariant-loop-place
invariant-loop-place l = (test : Arrived → Bool) → StandAt test 0 (take l.place l.arrivals) l.each.items
