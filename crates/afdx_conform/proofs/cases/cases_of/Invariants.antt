use Rattle.std.proofs.Common.{◌≡◌, ℕ, length, map, take, drop}
use Rattle.afdx_conform.specs.declared.levels.Rates.{Rates}
use Rattle.std.specs.Prelude.{All}
use Rattle.afdx_conform.specs.Marks.{arrival_of}
use Rattle.afdx_conform.specs.HeldStates.{IsNext, IsWithin, IsCaseWithin}
use Rattle.afdx_conform.specs.Limits.{AreLimits, gone_of}
use Rattle.afdx_conform.specs.Streams.{Terms, is_open}
use Rattle.afdx_conform.specs.declared.states.Case.{Case}
use Rattle.afdx_conform.proofs.cases.cases_of.Given as goal

abbrev pub invariant-loop-state : goal.invariant-loop-state
invariant-loop-state l =
    (map (λ (c : Case). c.held) l.out.items ≡ take l.state-index l.held)
    × ((z : Terms) → AreLimits z l.limits → l.coming.is_open ≡ is_open z (arrival_of l.coming.arrived.now) →
    All (λ c. IsNext z (arrival_of l.coming.arrived.now) (drop c.held.passed (map gone_of l.frames)) c.next)
    l.out.items)
    × ((rates : Rates) (count : ℕ) → All (λ h. IsWithin rates (length l.frames) count h) l.held
    → All (λ c. IsCaseWithin rates (length l.frames) count c) l.out.items)
