use Rattle.std.proofs.Common.{◌≡◌, ℕ, drop}
use Rattle.std.specs.List.{list_any}
use Rattle.afdx_conform.specs.Findings.{is_of_right}
use Rattle.afdx_conform.specs.KnownBytes.{StandAt, may_fit}
use Rattle.afdx_conform.specs.Limits.{AreLimits, gone_of}
use Rattle.afdx_conform.specs.Marks.{marked_all}
use Rattle.afdx_conform.specs.Streams.{Terms}
use Rattle.afdx_conform.proofs.naming.fits_unmarked.Given as goal

abbrev pub invariant-loop-place : goal.invariant-loop-place
invariant-loop-place l = (at : ℕ) × StandAt (may_fit l.limits l.frame) at (drop at l.arrivals)
    (drop l.place-index l.later)
    × ((z : Terms) → AreLimits z l.limits →
    list_any (λ m. is_of_right z (gone_of l.frame) m) (marked_all l.arrivals l.marks)
    ≡ list_any (λ m. is_of_right z (gone_of l.frame) m) (drop at (marked_all l.arrivals l.marks)))
