-- Why each line of admission at an output port, and policing, is needed: with a weaker one, the
-- promise is false.
use Rattle.std.specs.Prelude.{◌≡◌, ℕ, ◌+◌, ◌*◌, ◌-◌, ◌<◌, ◌≤◌, false, All, Contains, List, [], ◌∷◌}
use Rattle.std.specs.Prelude.{◌++◌, map}
use Rattle.afdx_frame.specs.declared.link.Priority.TheVariants.{High, Low}
use Rattle.afdx_frame.specs.Regulation.{byte_units}
use Rattle.afdx_frame.specs.Flows.{Flow, burst, high_wait, low_wait, high_load, IsPortAdmitted}
use Rattle.afdx_port.specs.Schedule.{Entry}
use Rattle.afdx_port.specs.ScheduleOf.{AreInOrder, schedule_of}
use Rattle.afdx_law_bounds.specs.Curve.{wire}
use Rattle.afdx_law_bounds.specs.Offered.{is_lost}
use Rattle.afdx_law_bounds.specs.Policed.{AreFlows, IsCharged, ArePoliced}

-- Entries here are identifiers of links, each charged its wire size.

-- each is in time where a port is admitted by this
abbrev pub InTimeWhere : (ℕ → ℕ → List Flow → Type 0) → Type 0
InTimeWhere Admits =
    (byte_ns buffer : ℕ) (flows : List Flow) (entries : List (Entry ℕ)) (f : Flow) →
    0 < byte_ns →
    AreFlows flows →
    Admits byte_ns buffer flows →
    AreInOrder entries →
    ArePoliced (λ vl. vl) wire flows entries →
    Contains flows f →
    All (λ s. s.entry.item ≡ f.vl → s.end ≤ s.entry.time + f.latency) (schedule_of byte_ns entries)

-- none is lost where a port is admitted by this
abbrev pub NoneIsLostWhere : (ℕ → ℕ → List Flow → Type 0) → Type 0
NoneIsLostWhere Admits =
    (byte_ns buffer : ℕ) (flows : List Flow) (entries : List (Entry ℕ)) (new : Entry ℕ) →
    0 < byte_ns →
    AreFlows flows →
    Admits byte_ns buffer flows →
    AreInOrder (entries ++ new ∷ []) →
    ArePoliced (λ vl. vl) wire flows (entries ++ new ∷ []) →
    is_lost byte_ns buffer entries new ≡ false

-- none is lost at an admitted port, whatever the window rule says of its frames
abbrev pub NoneIsLostUnpoliced : Type 0
NoneIsLostUnpoliced =
    (byte_ns buffer : ℕ) (flows : List Flow) (entries : List (Entry ℕ)) (new : Entry ℕ) →
    0 < byte_ns →
    AreFlows flows →
    IsPortAdmitted byte_ns buffer flows →
    AreInOrder (entries ++ new ∷ []) →
    All (λ e. IsCharged (λ vl. vl) wire flows e) (entries ++ new ∷ []) →
    is_lost byte_ns buffer entries new ≡ false

-- any load is admitted
pub record AdmitsOverload (byte_ns buffer : ℕ) (flows : List Flow) : Type 0 where
  pub fits_buffer : burst flows ≤ buffer * byte_units
  pub high_in_time :
      All (λ f. f.priority ≡ High → high_wait byte_ns flows ≤ f.latency * byte_units) flows
  pub low_in_time : All
      (λ f. f.priority ≡ Low →
      low_wait byte_ns flows ≤ f.latency * (byte_units - high_load byte_ns flows)) flows

-- any buffer is admitted, if only a larger one would be
pub record AdmitsSmallBuffer (byte_ns buffer : ℕ) (flows : List Flow) : Type 0 where
  pub larger : ℕ
  pub admitted : IsPortAdmitted byte_ns larger flows

-- a link with a latency of one nanosecond more
abbrev pub with_longer : Flow → Flow
with_longer f = record { vl = f.vl; link = f.link; priority = f.priority; latency = f.latency + 1 }

-- a latency is admitted that is one nanosecond short
abbrev pub AdmitsLate : ℕ → ℕ → List Flow → Type 0
AdmitsLate byte_ns buffer flows = IsPortAdmitted byte_ns buffer (map with_longer flows)

-- with an overload, or a latency that is a nanosecond short, a frame may be late;
-- with a buffer that is too small, or more frames than the window rule accepts, one may be lost
pub record EachLineIsNeeded : Type 0 where
  pub load : InTimeWhere AdmitsOverload → ⊥
  pub buffer : NoneIsLostWhere AdmitsSmallBuffer → ⊥
  pub high_latency : InTimeWhere
      (λ byte_ns buffer flows.
      AdmitsLate byte_ns buffer flows × All (λ f. f.priority ≡ High) flows) → ⊥
  pub low_latency : InTimeWhere
      (λ byte_ns buffer flows.
      AdmitsLate byte_ns buffer flows × All (λ f. f.priority ≡ Low) flows) → ⊥
  pub policing : NoneIsLostUnpoliced → ⊥
