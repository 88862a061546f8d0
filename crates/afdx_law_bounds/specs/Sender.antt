-- A sender's own port (ARINC 664 Part 7, the end system's output).
use Rattle.std.specs.Prelude.{◌≡◌, ℕ, ◌+◌, ◌≤◌, All, Contains, List, [], ◌∷◌, ◌++◌}
use Rattle.afdx_frame.specs.declared.link.Priority.{Priority}
use Rattle.afdx_frame.specs.Flows.{Flow, sending_time, IsPortAdmitted}
use Rattle.afdx_config.specs.Admission.{fixed_jitter, greatest_jitter}
use Rattle.afdx_police.specs.Stream.{IsRegular}
use Rattle.afdx_port.specs.Schedule.{Entry, Turn, AreTurns, IsSchedule, IsLost}
use Rattle.afdx_port.specs.ScheduleOf.{AreInOrder}
use Rattle.afdx_law_bounds.specs.Policed.{AreFlows, charged_to, IsCharged, IsRegulated}

-- the bytes that may wait at a sender's own port
abbrev pub sender_buffer : ℕ
sender_buffer = 65536

-- the time in which one frame of each link is sent, each of its link's greatest size, in ns
abbrev pub one_of_each : ℕ → List Flow → ℕ
one_of_each byte_ns flows = sending_time (λ f. f.link) byte_ns flows

-- a link as its sender's own port sees it: of the port's one class, released with no jitter, and in
-- time if one frame of each link has been sent since its release
pub record IsSent (byte_ns : ℕ) (class : Priority) (flows : List Flow) (f : Flow) : Type 0 where
  pub own_class : f.priority ≡ class
  pub regular : f.link.jitter_us ≡ 0
  pub waits : f.latency ≡ one_of_each byte_ns flows

-- these are the links of a sender, whose jitter, its own and the time of one frame of each, is not
-- more than it may be
pub record IsSender (byte_ns : ℕ) (class : Priority) (flows : List Flow) : Type 0 where
  pub line : 8 ≤ byte_ns
  pub flows_are : AreFlows flows
  pub jitter : fixed_jitter + one_of_each byte_ns flows ≤ greatest_jitter
  pub each : All (λ f. IsSent byte_ns class flows f) flows

-- such links are admitted at a port of that buffer
abbrev pub SenderIsAdmitted : Type 0
SenderIsAdmitted =
    (byte_ns : ℕ) (class : Priority) (flows : List Flow) →
    IsSender byte_ns class flows →
    IsPortAdmitted byte_ns sender_buffer flows

-- the entries of each link are a stream that keeps the link's gap
abbrev pub AreReleased : {X : Type 0} → (X → ℕ) → (Entry X → ℕ) → List Flow → List (Entry X) →
    Type 0
AreReleased vl_of charge_of flows entries =
    (f : Flow) →
    Contains flows f →
    (next : ℕ) × IsRegular f.link (charged_to vl_of charge_of f.vl entries) next

-- so what such streams release there is policed
abbrev pub SenderIsRegulated : Type 0 → Type 0
SenderIsRegulated X =
    (byte_ns : ℕ) (class : Priority) (flows : List Flow) (vl_of : X → ℕ) (charge_of : Entry X → ℕ)
    (entries : List (Entry X)) →
    IsSender byte_ns class flows →
    AreInOrder entries →
    All (λ e. IsCharged vl_of charge_of flows e) entries →
    AreReleased vl_of charge_of flows entries →
    IsRegulated byte_ns sender_buffer flows vl_of charge_of entries

-- the port is never full
abbrev pub SenderIsNeverFull : Type 0 → Type 0
SenderIsNeverFull X =
    (byte_ns : ℕ) (class : Priority) (flows : List Flow) (vl_of : X → ℕ) (charge_of : Entry X → ℕ)
    (entries : List (Entry X)) (turns : List (Turn X)) (new : Entry X) →
    IsSender byte_ns class flows →
    AreInOrder (entries ++ new ∷ []) →
    All (λ e. IsCharged vl_of charge_of flows e) (entries ++ new ∷ []) →
    AreReleased vl_of charge_of flows (entries ++ new ∷ []) →
    IsSchedule byte_ns entries turns →
    IsLost sender_buffer entries turns new.time new.bytes → ⊥

-- and each frame has been sent when one frame of each link could have been since its release
abbrev pub SenderIsInTime : Type 0 → Type 0
SenderIsInTime X =
    (byte_ns : ℕ) (class : Priority) (flows : List Flow) (vl_of : X → ℕ) (charge_of : Entry X → ℕ)
    (entries : List (Entry X)) (turns : List (Turn X)) →
    IsSender byte_ns class flows →
    AreInOrder entries →
    All (λ e. IsCharged vl_of charge_of flows e) entries →
    AreReleased vl_of charge_of flows entries →
    AreTurns byte_ns entries turns →
    All (λ s. s.end ≤ s.entry.time + one_of_each byte_ns flows) turns
