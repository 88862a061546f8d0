-- What the code keeps of a source's clocks, stamps and rate.
use Rattle.std.specs.Prelude.{◌≡◌}
use Rattle.afdx_lawful.specs.Sources.{Source, cost, fast, hold, room, slip, slow}
use Rattle.afdx_lawful.specs.declared.limits.SenderLimits.{SenderLimits}

-- these are a source's
pub record AreLimits (s : Source) (limits : SenderLimits) : Type 0 where
  pub fast : limits.fast ≡ fast s
  pub slow : limits.slow ≡ slow s
  pub slip : limits.slip ≡ slip s
  pub hold : limits.hold ≡ hold s
  pub cost : limits.cost ≡ cost s
  pub room : limits.room ≡ room s
