-- When the arrivals of recordings come: their moments, counted from that of time 0.
use Rattle.std.specs.Prelude.{ℕ, Bool, false, ◌-◌, nat_lt, [], ◌∷◌, Option, Some, None, if◌then◌else◌}
use Rattle.afdx_frame.specs.Times.{latest_listed}
use Rattle.afdx_input_lines.specs.declared.fault.RunFault.{RunFault}
use Rattle.afdx_input_sources.specs.Engine.{Item, item_of}
use Rattle.afdx_input_sources.specs.declared.number.Number.{Number}
use Rattle.afdx_input_sources.specs.declared.number.Number.TheVariants.{Arrival, Skipped}
use Rattle.afdx_input_sources.specs.declared.number_line.NumberLine.{NumberLine}
use Rattle.afdx_input_sources.specs.declared.number_line.NumberLine.TheVariants as line
use Rattle.afdx_input_sources.specs.NumberLines.{Lines}
use Rattle.afdx_input_sources.specs.Sequences.{Numbers}

-- the moment that is time 0, once there is an arrival of this one
abbrev pub origin_or : Option ℕ → ℕ → ℕ
origin_or (Some origin) moment = origin
origin_or None moment = moment

-- behind this number
abbrev pub origin_with : Number → Option ℕ → Option ℕ
origin_with (Arrival found) origin = Some (origin_or origin found.moment)
origin_with (Skipped reason) origin = origin

-- behind these: that which was said, else that of the first arrival
unfoldable pub origin_in : (said : Option ℕ) → Numbers → Option ℕ
origin_in said [] = said
origin_in said (x ∷ past) = origin_with x.head (origin_in said past)

-- the line of a number
unfoldable pub line_by : Option ℕ → Number → NumberLine
line_by origin (Arrival found) =
    line.Arrival found.kind (found.moment - origin_or origin found.moment) found.role found.side
    found.switch found.port
line_by origin (Skipped reason) = line.Skipped reason

-- its time is too large
unfoldable pub is_late : Option ℕ → Number → Bool
is_late origin (Arrival found) = nat_lt latest_listed (found.moment - origin_or origin found.moment)
is_late origin (Skipped reason) = false

-- the lines of numbers, up to the first that is too late, and the fault that stands behind them
pub record Timed : Type 0 where
  pub lines : Lines
  pub fault : Option RunFault

-- one number more, which may be too late
abbrev pub time_next : (late : Item Number → RunFault) → Option ℕ → Item Number → Lines →
    Option RunFault → Timed
time_next late origin x lines (Some fault) = record { lines = lines; fault = Some fault }
time_next late origin x lines None =
    if is_late origin x.head then record { lines = lines; fault = Some (late x) }
    else record { lines = item_of x.number (line_by origin x.head) x.bytes ∷ lines; fault = None }

-- those of these numbers
unfoldable pub timed : (late : Item Number → RunFault) → (said : Option ℕ) → Numbers → Timed
timed late said [] = record { lines = []; fault = None }
timed late said (x ∷ past) =
    let before = timed late said past in
    time_next late (origin_in said past) x before.lines before.fault

-- this fault stands behind them, unless one does already
abbrev pub fault_or : Option RunFault → Option RunFault → Option RunFault
fault_or (Some fault) later = Some fault
fault_or None later = later

-- all lines of numbers behind which this fault stands
abbrev pub timed_up_to : (late : Item Number → RunFault) → (said : Option ℕ) → Numbers →
    Option RunFault → Timed
timed_up_to late said numbers fault =
    let all = timed late said numbers in
    record { lines = all.lines; fault = fault_or all.fault fault }
