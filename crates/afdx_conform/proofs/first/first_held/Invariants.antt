use Rattle.std.proofs.Common.{◌≡◌, map, length}
use Rattle.std.specs.Prelude.{All}
use Rattle.afdx_conform.specs.Bounds.{AreBounds}
use Rattle.afdx_conform.specs.HeldStates.{IsWithin}
use Rattle.afdx_conform.specs.LeewayOf.{leeway_of}
use Rattle.afdx_conform.specs.Limits.{gone_of}
use Rattle.afdx_conform.specs.Streams.{Terms}
use Rattle.afdx_conform.proofs.FirstLemmas.{AreFirst}
use Rattle.afdx_conform.proofs.first.first_held.Given as goal

abbrev pub invariant-loop-place : goal.invariant-loop-place
invariant-loop-place l = record {
  defined : (z : Terms) → AreBounds z l.bounds → z.by ≡ leeway_of l.by
      → AreFirst z l.levels (map gone_of l.frames) l.out.items l.place;
  within : All (λ h. IsWithin l.bounds.rates (length l.frames) 0 h) l.out.items;
}
