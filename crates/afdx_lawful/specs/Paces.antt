-- What the code keeps of the level of a source's side.
use Rattle.std.specs.Prelude.{◌≡◌, ℕ, ◌*◌, ◌-◌, List}
use Rattle.afdx_lawful.specs.Alone.{level, times_with_room}
use Rattle.afdx_lawful.specs.Sources.{Came, Source, fast}
use Rattle.afdx_lawful.specs.declared.pace.Pace.{Pace}

-- it is the level after these whole frames of the side, at each time behind them
abbrev pub IsPace : Source → List Came → Pace → Type 0
IsPace s past pace =
    (time : ℕ) → level s (times_with_room s past) time ≡ pace.level - fast s * (time - pace.time)
