use Rattle.std.proofs.Common.{◌≡◌, ℕ, ◌-◌, ◌<◌, ◌≤◌, [], map, drop, length}
use Rattle.std.specs.Prelude.{All}
use Rattle.afdx_frame.specs.Regulation.{Regulation}
use Rattle.afdx_conform.specs.Accounts.{AreRates}
use Rattle.afdx_conform.specs.Arriving.{ComesAt}
use Rattle.afdx_conform.specs.Bounds.{AreBounds}
use Rattle.afdx_conform.specs.Explanations.{levels_then}
use Rattle.afdx_conform.specs.Findings.{Judged}
use Rattle.afdx_conform.specs.HeldStates.{IsWithin, state_of}
use Rattle.afdx_conform.specs.Leeway.{Leeway}
use Rattle.afdx_conform.specs.Limits.{gone_of}
use Rattle.afdx_conform.specs.Marks.{IsCharged, arrival_of}
use Rattle.afdx_conform.specs.Ranges.{most_held}
use Rattle.afdx_conform.specs.States.{led_by, states_at}
use Rattle.afdx_conform.specs.Streams.{Terms}
use Rattle.afdx_conform.proofs.DeviateSteps.{AreAt, Passed}
use Rattle.afdx_conform.proofs.deviate.deviate.Given as goal

abbrev pub invariant-loop-front : goal.invariant-loop-front
invariant-loop-front l = record {
  bounds : (count : ℕ) × (count < most_held) × All (λ h. IsWithin l.bounds.rates (length l.recorded.frames.now) count h)
      l.held.items;
  inside : (l.first ≤ l.front) × (l.front ≤ length l.recorded.frames.now);
  within : (link : Regulation) (by : Leeway) (count : ℕ) → AreRates link by l.bounds.rates
      → All (λ h. IsWithin l.bounds.rates (length l.recorded.frames.now) count h) l.fn.held.items
      → All (λ h. IsWithin l.bounds.rates (length l.recorded.frames.now) count h) l.held.items;
  defined : (z : Terms) (last : ℕ) (j : Judged) → AreBounds z l.bounds → IsCharged z l.coming.arrived.now
      → ComesAt z last l.coming
      → led_by (λ s. states_at z (arrival_of l.coming.arrived.now)
      (levels_then z s.levels last (arrival_of l.coming.arrived.now)) s)
      (map (state_of (map gone_of l.recorded.frames.now)) l.fn.held.items) ≡ []
      → AreAt z last (map arrival_of (drop l.lookup.from l.recorded.arrivals.now)) (arrival_of l.coming.arrived.now)
      (map gone_of l.recorded.frames.now)
      l.fn.held.items l.held.items l.front j
      (Passed z l.coming.arrived.now.time l.recorded.frames.now j l.first l.front);
}

abbrev pub decreases-loop-front : goal.decreases-loop-front
decreases-loop-front l = length l.recorded.frames.now - l.front
