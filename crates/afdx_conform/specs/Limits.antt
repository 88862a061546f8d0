-- What the code keeps of a stream to tell which frame may be of which arrival.
use Rattle.std.specs.Prelude.{◌≡◌, ℕ, ◌<◌, ◌≤◌, List, get_or, length}
use Rattle.afdx_conform.specs.Leeway.{reach}
use Rattle.afdx_conform.specs.Streams.{Gone, Terms, latency}
use Rattle.afdx_conform.specs.declared.limits.LeftFrame.{LeftFrame}
use Rattle.afdx_conform.specs.declared.limits.Limits.{Limits}

-- the frame as one that left
abbrev pub gone_of : LeftFrame → Gone
gone_of frame = record { number = frame.number; time = frame.time; bytes = frame.bytes }

-- these are a stream's limits
pub record AreLimits (z : Terms) (limits : Limits) : Type 0 where
  pub latency : limits.latency ≡ latency z
  pub reach : limits.reach ≡ reach z.by
  pub byte_ns : limits.byte_ns ≡ z.byte_ns
  pub drift : limits.drift ≡ z.by.drift

-- frames that go by time
abbrev pub AreFrames : List LeftFrame → Type 0
AreFrames frames = (i k : ℕ) (f g : LeftFrame) → i ≤ k → k < length frames
    → f ≡ get_or frames i f → g ≡ get_or frames k g → f.time ≤ g.time
