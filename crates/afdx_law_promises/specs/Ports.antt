-- The output ports of both switches, after all that arrived. A list of arrivals has the newest
-- first, a list of turns the latest.
use Rattle.std.specs.Prelude.{ℕ, List}
use Rattle.afdx_frame.specs.declared.link.Side.{Side}
use Rattle.afdx_config.specs.Rows.{Rows}
use Rattle.afdx_police.specs.Arrival.{Arrival}
use Rattle.afdx_port.specs.Schedule.{Turn, IsSchedule}
use Rattle.afdx_switch.specs.HeldFrames.{HeldFrame}
use Rattle.afdx_switch.specs.Tables.{byte_ns_at, entries_at}

-- these are the turns of all its entries
abbrev pub AreItsTurns : Rows → Side → ℕ → List Arrival → List (Turn HeldFrame) → Type 0
AreItsTurns t side port arrivals turns =
    IsSchedule (byte_ns_at t port) (entries_at t side port arrivals) turns
