-- What is held before a device is handed on.
use Rattle.std.specs.Prelude.{ℕ, Bool, List, Option}
use Rattle.std.specs.Io.KnownBytes.{Keeps}

-- all that was given stood in the device, and then one flush of it gave this answer: whether it
-- failed (`Flushed`)
pub record HandsOn {W : Type 0} (contents : W → Option (List ℕ)) (Flushed : W → W → Bool → Type 0)
    (given : Option (List ℕ)) (new : W) (failed : Bool) : Type 0 where
  pub before : W
  pub stood : Keeps given (contents before)
  pub flushed : Flushed before new failed
