use Rattle.std.proofs.Common.{ℕ, List, map, take, length, ◌≤◌}
use Rattle.std.specs.Prelude.{All}
use Rattle.afdx_conform.proofs.FewLemmas.{AreFew}
use Rattle.afdx_conform.specs.HeldStates.{state_of, AreFront, IsWithin}
use Rattle.afdx_conform.specs.declared.levels.Rates.{Rates}
use Rattle.afdx_conform.specs.Streams.{Gone}
use Rattle.afdx_conform.specs.Thinned.{AreEnough}
use Rattle.afdx_conform.proofs.states.thinned_plainly.Given as goal

abbrev pub invariant-loop-state : goal.invariant-loop-state
invariant-loop-state l =
    ((ys : List Gone) → AreEnough (map (state_of ys) (take l.state-index l.held)) (map (state_of ys) l.out.items))
    × AreFront l.out.items
    × ((ys : List Gone) → All (λ h. h.passed ≤ length ys) l.held → AreFew ys l.out.items (take l.state-index l.held))
    × ((rates : Rates) (frames count : ℕ) → All (λ h. IsWithin rates frames count h) l.held
    → All (λ h. IsWithin rates frames count h) l.out.items)
