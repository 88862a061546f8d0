-- What is true of a port's turns where the entries of each class keep a curve.
use Rattle.std.specs.Prelude.{◌≡◌, ℕ, ◌+◌, ◌*◌, ◌-◌, ◌<◌, ◌≤◌, All, List, [], ◌∷◌, ◌++◌}
use Rattle.afdx_frame.specs.declared.link.Priority.TheVariants.{High, Low}
use Rattle.afdx_frame.specs.Regulation.{byte_units}
use Rattle.afdx_port.specs.Schedule.{Entry, Turn, AreTurns, IsSchedule, waiting_bytes}
use Rattle.afdx_port.specs.ScheduleOf.{AreInOrder}
use Rattle.afdx_law_bounds.specs.Curve.{Curve, KeepsCurve, wire}

-- the frames that wait, with one more that is offered, have at most the bytes of both bursts
abbrev pub WaitingIsBounded : Type 0 → Type 0
WaitingIsBounded X =
    (byte_ns : ℕ) (high low : Curve) (entries : List (Entry X)) (turns : List (Turn X))
    (new : Entry X) →
    0 < byte_ns →
    byte_ns * (high.rate + low.rate) ≤ byte_units →
    AreInOrder (entries ++ new ∷ []) →
    KeepsCurve High high (entries ++ new ∷ []) →
    KeepsCurve Low low (entries ++ new ∷ []) →
    IsSchedule byte_ns entries turns →
    byte_units * (waiting_bytes entries turns new.time + new.bytes) ≤ high.burst + low.burst

-- a high frame's turn is over when the high burst, and the longest low frame, could have been sent
-- since it came
abbrev pub HighIsBounded : Type 0 → Type 0
HighIsBounded X =
    (byte_ns : ℕ) (high : Curve) (longest_low : ℕ) (entries : List (Entry X))
    (turns : List (Turn X)) →
    byte_ns * high.rate ≤ byte_units →
    AreInOrder entries →
    KeepsCurve High high entries →
    All (λ e. e.priority ≡ Low → wire e ≤ longest_low) entries →
    AreTurns byte_ns entries turns →
    All
    (λ s. s.entry.priority ≡ High →
    byte_units * s.end
    ≤ byte_units * s.entry.time + byte_ns * (high.burst + byte_units * longest_low)) turns

-- a low frame's turn is over when both bursts could have been sent since it came, at the rate that
-- the high frames leave
abbrev pub LowIsBounded : Type 0 → Type 0
LowIsBounded X =
    (byte_ns : ℕ) (high low : Curve) (entries : List (Entry X)) (turns : List (Turn X)) →
    byte_ns * (high.rate + low.rate) ≤ byte_units →
    AreInOrder entries →
    KeepsCurve High high entries →
    KeepsCurve Low low entries →
    AreTurns byte_ns entries turns →
    All
    (λ s. s.entry.priority ≡ Low →
    (byte_units - byte_ns * high.rate) * s.end
    ≤ (byte_units - byte_ns * high.rate) * s.entry.time + byte_ns * (high.burst + low.burst)) turns
