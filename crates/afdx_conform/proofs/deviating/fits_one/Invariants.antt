use Rattle.std.proofs.Common.{◌≡◌, ℕ, map, drop}
use Rattle.std.specs.List.{list_any}
use Rattle.afdx_conform.specs.KnownBytes.{StandAt, may_fit}
use Rattle.afdx_conform.specs.Limits.{AreLimits, gone_of}
use Rattle.afdx_conform.specs.Marks.{arrival_of}
use Rattle.afdx_conform.specs.Streams.{Terms, fits}
use Rattle.afdx_conform.proofs.deviating.fits_one.Given as goal

abbrev pub invariant-loop-place : goal.invariant-loop-place
invariant-loop-place l = (at : ℕ) × StandAt (may_fit l.limits l.frame) at (drop at l.arrivals)
    (drop l.place-index l.places)
    × ((z : Terms) → AreLimits z l.limits →
    list_any (λ w. fits z w (gone_of l.frame)) (map arrival_of (drop l.from l.arrivals))
    ≡ list_any (λ w. fits z w (gone_of l.frame)) (map arrival_of (drop at l.arrivals)))
