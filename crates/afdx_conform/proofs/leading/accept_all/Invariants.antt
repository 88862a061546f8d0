use Rattle.std.proofs.Common.{◌≡◌, ℕ, ◌-◌, List, map, take}
use Rattle.std.specs.Prelude.{All}
use Rattle.afdx_frame.specs.Regulation.{Regulation}
use Rattle.afdx_conform.specs.Accounts.{AreRates, AreNear}
use Rattle.afdx_conform.specs.Bounds.{HaveToPass}
use Rattle.afdx_conform.specs.Explanations.{link}
use Rattle.afdx_conform.specs.Findings.{aged, as_accepted}
use Rattle.afdx_conform.specs.HeldStates.{IsWithin, state_of}
use Rattle.afdx_conform.specs.Leeway.{Leeway}
use Rattle.afdx_conform.specs.Marks.{IsCharged, arrival_of}
use Rattle.afdx_conform.specs.Streams.{Gone, Terms}
use Rattle.afdx_conform.proofs.leading.accept_all.Given as goal

abbrev pub invariant-loop-state : goal.invariant-loop-state
invariant-loop-state l =
    ((z : Terms) (ys : List Gone) (last : ℕ) → AreRates (link z) z.by l.rates → IsCharged z l.arrived →
    l.ns ≡ l.arrived.time - last → All (λ h. AreNear l.rates h.levels) l.held →
    HaveToPass z last (arrival_of l.arrived) l.held →
    map (state_of ys) l.out.items
    ≡ as_accepted z (arrival_of l.arrived)
    (aged z last (arrival_of l.arrived) (map (state_of ys) (take l.state-index l.held))))
    × ((link : Regulation) (by : Leeway) (frames count : ℕ) → AreRates link by l.rates
    → All (λ h. IsWithin l.rates frames count h) l.held → All (λ h. IsWithin l.rates frames count h) l.out.items)
