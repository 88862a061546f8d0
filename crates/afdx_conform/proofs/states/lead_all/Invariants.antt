use Rattle.afdx_frame.specs.Regulation.{Regulation}
use Rattle.afdx_conform.specs.Leeway.{Leeway}
use Rattle.std.proofs.Common.{◌≡◌, ℕ, ◌+◌, ◌-◌, List, map, drop, take}
use Rattle.std.specs.Prelude.{All}
use Rattle.afdx_police.specs.Arrival.{Arrival}
use Rattle.afdx_conform.specs.Accounts.{AreRates}
use Rattle.afdx_conform.specs.Explanations.{link, charge, levels_then}
use Rattle.afdx_conform.specs.HeldStates.{IsNext, IsWithin, IsCaseWithin, state_of}
use Rattle.afdx_conform.specs.States.{led_by, states_at}
use Rattle.afdx_conform.specs.Streams.{Gone, Terms}
use Rattle.afdx_conform.proofs.states.lead_all.Given as goal

abbrev pub invariant-loop-case : goal.invariant-loop-case
invariant-loop-case l =
    ((z : Terms) (x : Arrival) (ys : List Gone) (last : ℕ) →
    AreRates (link z) z.by l.rates →
    l.charge ≡ charge z x →
    l.ns ≡ x.time - last →
    All (λ c. IsNext z x (drop c.held.passed ys) c.next) l.cases →
    map (state_of ys) l.out.items
    ≡ led_by (λ s. states_at z x (levels_then z s.levels last x) s)
    (map (λ c. state_of ys c.held) (take l.case-index l.cases)))
    × ((link : Regulation) (by : Leeway) (frames count : ℕ) → AreRates link by l.rates
    → All (λ c. IsCaseWithin l.rates frames count c) l.cases
    → All (λ h. IsWithin l.rates frames (count + 1) h) l.out.items)
