use Rattle.std.proofs.Common.{take}
use Rattle.afdx_conform.specs.KnownBytes.{AreKept}
use Rattle.afdx_conform.proofs.known_bytes.places_of.Given as goal

abbrev pub invariant-loop-place : goal.invariant-loop-place
invariant-loop-place l = AreKept l.places (take l.place l.arrivals)
