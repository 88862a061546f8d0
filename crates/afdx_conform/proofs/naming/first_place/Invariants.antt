use Rattle.std.proofs.Common.{ℕ, drop}
use Rattle.afdx_conform.specs.KnownBytes.{StandAt, may_fit}
use Rattle.afdx_conform.specs.Limits.{AreLimits, gone_of}
use Rattle.afdx_conform.specs.Marks.{marked_all}
use Rattle.afdx_conform.specs.Streams.{Terms}
use Rattle.afdx_conform.proofs.NamingLemmas.{IsNamedFrom}
use Rattle.afdx_conform.proofs.naming.first_place.Given as goal

abbrev pub invariant-loop-place : goal.invariant-loop-place
invariant-loop-place l = (at : ℕ) × StandAt (may_fit l.limits l.frame) at (drop at l.arrivals)
    (drop l.place-index l.places)
    × ((z : Terms) → AreLimits z l.limits → IsNamedFrom z (gone_of l.frame) (marked_all l.arrivals l.marks) at)
