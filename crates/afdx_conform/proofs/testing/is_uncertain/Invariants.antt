use Rattle.std.proofs.Common.{◌≡◌, ℕ, ◌-◌, List, map, drop}
use Rattle.std.specs.List.{list_any}
use Rattle.afdx_conform.specs.Accounts.{AreRates}
use Rattle.afdx_conform.specs.Explanations.{link}
use Rattle.afdx_conform.specs.HeldStates.{state_of}
use Rattle.afdx_conform.specs.Marks.{IsCharged, arrival_of}
use Rattle.afdx_conform.specs.Streams.{Gone, Terms}
use Rattle.afdx_conform.specs.Testing.{goes_either_way}
use Rattle.afdx_conform.proofs.testing.is_uncertain.Given as goal

abbrev pub invariant-loop-state : goal.invariant-loop-state
invariant-loop-state l = (z : Terms) (ys : List Gone) (last : ℕ) → AreRates (link z) z.by l.rates
    → IsCharged z l.arrived
    → l.ns ≡ l.arrived.time - last
    → list_any (λ s. goes_either_way z last (arrival_of l.arrived) s) (map (state_of ys) l.held)
    ≡ list_any (λ s. goes_either_way z last (arrival_of l.arrived) s) (map (state_of ys) (drop l.state-index l.held))
