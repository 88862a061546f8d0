-- What the code keeps of what a stream is judged by.
use Rattle.std.specs.Prelude.{ℕ, IsTrue, List, All}
use Rattle.afdx_police.specs.Arrival.{Arrival}
use Rattle.afdx_conform.specs.Accounts.{AreRates}
use Rattle.afdx_conform.specs.Explanations.{link, charge, levels_then}
use Rattle.afdx_conform.specs.Levels.{has_to_pass}
use Rattle.afdx_conform.specs.Limits.{AreLimits}
use Rattle.afdx_conform.specs.Streams.{Terms}
use Rattle.afdx_conform.specs.declared.bounds.Bounds.{Bounds}
use Rattle.afdx_conform.specs.declared.states.StreamState.{StreamState}

-- these are a stream's rates and limits
pub record AreBounds (z : Terms) (bounds : Bounds) : Type 0 where
  pub rates : AreRates (link z) z.by bounds.rates
  pub limits : AreLimits z bounds.limits

-- an arrival has to pass in each of these states, where the one before came at `last`
abbrev pub HaveToPass : Terms → ℕ → Arrival → List StreamState → Type 0
HaveToPass z last x held =
    All (λ h. IsTrue (has_to_pass (link z) z.by (charge z x) (levels_then z h.levels last x))) held
