-- What admission promises of a port whose flows are policed.
use Rattle.std.specs.Prelude.{◌≡◌, ℕ, ◌+◌, ◌*◌, ◌-◌, ◌<◌, ◌≤◌, true, false, All, Contains, IsTrue}
use Rattle.std.specs.Prelude.{List, [], ◌∷◌, ◌++◌, sum_by, Some, slice_get}
use Rattle.afdx_frame.specs.declared.link.Priority.TheVariants.{High, Low}
use Rattle.afdx_frame.specs.Regulation.{byte_units}
use Rattle.afdx_frame.specs.Flows.{Flow, of_class, burst, longest, load, high_load, IsPortAdmitted}
use Rattle.afdx_police.specs.Account.{missing}
use Rattle.afdx_police.specs.Window.{fits}
use Rattle.afdx_port.specs.Due.{IsAfter}
use Rattle.afdx_port.specs.History.{due_at}
use Rattle.afdx_port.specs.Schedule.{Entry, Turn, has_turn, begun_before, IsWithoutTurn, IsNext}
use Rattle.afdx_port.specs.Schedule.{AreTurns, IsSchedule, IsLost}
use Rattle.afdx_port.specs.ScheduleOf.{AreInOrder}
use Rattle.afdx_law_bounds.specs.Curve.{wire, work_left, high_work_left, low_work_left}
use Rattle.afdx_law_bounds.specs.Policed.{AreFlows, charged_as, charged_to, MayWait, IsCharged}
use Rattle.afdx_law_bounds.specs.Policed.{ArePoliced, IsRegulated}

module _ {X : Type 0} where
  -- what is missing at t in the accounts of these flows together
  abbrev pub missing_of : (X → ℕ) → (Entry X → ℕ) → List (Entry X) → ℕ → List Flow → ℕ
  missing_of vl_of charge_of entries t flows = sum_by
      (λ f. missing f.link (charged_to vl_of charge_of f.vl entries) t) flows

-- the balance: the work left is at most what is missing in all accounts
abbrev pub WorkIsMissing : Type 0 → Type 0
WorkIsMissing X =
    (byte_ns : ℕ) (flows : List Flow) (vl_of : X → ℕ) (charge_of : Entry X → ℕ)
    (entries : List (Entry X)) (turns : List (Turn X)) (t : ℕ) →
    AreFlows flows →
    load byte_ns flows ≤ byte_units →
    All (λ e. IsCharged vl_of charge_of flows e) entries →
    All (λ e. e.time ≤ t) entries →
    IsSchedule byte_ns entries turns →
    byte_units * work_left byte_ns entries turns t
    ≤ byte_ns * missing_of vl_of charge_of entries t flows

-- the same for the high frames alone, with a low frame that may be on the line
abbrev pub HighWorkIsMissing : Type 0 → Type 0
HighWorkIsMissing X =
    (byte_ns : ℕ) (flows : List Flow) (vl_of : X → ℕ) (charge_of : Entry X → ℕ)
    (entries : List (Entry X)) (turns : List (Turn X)) (t : ℕ) →
    AreFlows flows →
    high_load byte_ns flows ≤ byte_units →
    All (λ e. IsCharged vl_of charge_of flows e) entries →
    All (λ e. e.time ≤ t) entries →
    IsSchedule byte_ns entries turns →
    byte_units * high_work_left byte_ns entries turns t
    ≤ byte_ns * (missing_of vl_of charge_of entries t (of_class High flows)
    + byte_units * longest (of_class Low flows))

-- the balance along the wait of a low frame: as it waits, the bound on the work before it falls by
-- what the high flows leave of the line
abbrev pub LowWorkFalls : Type 0 → Type 0
LowWorkFalls X =
    (byte_ns : ℕ) (flows : List Flow) (vl_of : X → ℕ) (charge_of : Entry X → ℕ)
    (entries : List (Entry X)) (turns : List (Turn X)) (t place : ℕ) (e : Entry X) →
    AreFlows flows →
    load byte_ns flows ≤ byte_units →
    ArePoliced vl_of charge_of flows entries →
    AreInOrder entries →
    All (λ e. e.time ≤ t) entries →
    IsSchedule byte_ns entries turns →
    IsWithoutTurn entries (begun_before t turns) place e →
    e.priority ≡ Low →
    byte_units * low_work_left byte_ns entries turns e.time t
    + (byte_units - high_load byte_ns flows) * (t - e.time)
    ≤ byte_ns * (missing_of vl_of charge_of entries t (of_class High flows)
    + burst (of_class Low flows))

-- a port that is admitted and has no entries yet
abbrev pub StartIsRegulated : Type 0 → Type 0
StartIsRegulated X =
    (byte_ns buffer : ℕ) (flows : List Flow) (vl_of : X → ℕ) (charge_of : Entry X → ℕ) →
    0 < byte_ns →
    AreFlows flows →
    IsPortAdmitted byte_ns buffer flows →
    IsRegulated byte_ns buffer flows vl_of charge_of []

-- a further frame of this flow, which comes no earlier than the entries and fits by the window rule
pub record Joins {X : Type 0} (vl_of : X → ℕ) (charge_of : Entry X → ℕ) (flows : List Flow)
    (entries : List (Entry X)) (f : Flow) (new : Entry X) : Type 0 where
  pub last : All (λ e. e.time ≤ new.time) entries
  pub stands : Contains flows f
  pub named : vl_of new.item ≡ f.vl
  pub class : new.priority ≡ f.priority
  pub at_least : wire new ≤ charge_of new
  pub at_most : charge_of new ≤ f.link.smax
  pub fits_in :
      IsTrue (fits f.link (charged_to vl_of charge_of f.vl entries) (charged_as charge_of new))

-- such a frame leaves the entries in order and policed
abbrev pub NextIsRegulated : Type 0 → Type 0
NextIsRegulated X =
    (byte_ns buffer : ℕ) (flows : List Flow) (vl_of : X → ℕ) (charge_of : Entry X → ℕ)
    (entries : List (Entry X)) (f : Flow) (new : Entry X) →
    IsRegulated byte_ns buffer flows vl_of charge_of entries →
    Joins vl_of charge_of flows entries f new →
    IsRegulated byte_ns buffer flows vl_of charge_of (entries ++ new ∷ [])

-- no accepted frame is lost to a full buffer
abbrev pub NoneIsLost : Type 0 → Type 0
NoneIsLost X =
    (byte_ns buffer : ℕ) (flows : List Flow) (vl_of : X → ℕ) (charge_of : Entry X → ℕ)
    (entries : List (Entry X)) (turns : List (Turn X)) (new : Entry X) →
    IsRegulated byte_ns buffer flows vl_of charge_of (entries ++ new ∷ []) →
    IsSchedule byte_ns entries turns →
    IsLost buffer entries turns new.time new.bytes → ⊥

-- each accepted frame's turn is over within its link's latency
abbrev pub EachIsInTime : Type 0 → Type 0
EachIsInTime X =
    (byte_ns buffer : ℕ) (flows : List Flow) (vl_of : X → ℕ) (charge_of : Entry X → ℕ)
    (entries : List (Entry X)) (turns : List (Turn X)) (f : Flow) →
    IsRegulated byte_ns buffer flows vl_of charge_of entries →
    AreTurns byte_ns entries turns →
    Contains flows f →
    All (λ s. vl_of s.entry.item ≡ f.vl → s.end ≤ s.entry.time + f.latency) turns

-- none is dropped for its age that may wait as long as its link's latency
abbrev pub NoneIsTooOld : Type 0 → Type 0
NoneIsTooOld X =
    (byte_ns buffer : ℕ) (flows : List Flow) (vl_of : X → ℕ) (charge_of : Entry X → ℕ)
    (entries : List (Entry X)) (turns : List (Turn X)) (f : Flow) →
    IsRegulated byte_ns buffer flows vl_of charge_of entries →
    AreTurns byte_ns entries turns →
    Contains flows f →
    All (λ s. vl_of s.entry.item ≡ f.vl → MayWait f.latency s.entry → s.too_old ≡ false) turns

-- where no further turn is given by `until`, each such frame whose latency is over by then has one
-- of the turns
abbrev pub EachHasLeft : Type 0 → Type 0
EachHasLeft X =
    (byte_ns buffer : ℕ) (flows : List Flow) (vl_of : X → ℕ) (charge_of : Entry X → ℕ)
    (entries : List (Entry X)) (turns : List (Turn X)) (f : Flow) (until place : ℕ) (e : Entry X) →
    IsRegulated byte_ns buffer flows vl_of charge_of entries →
    AreTurns byte_ns entries turns →
    Contains flows f →
    ((s : Turn X) → IsNext byte_ns entries turns s → IsAfter until (due_at s)) →
    slice_get entries place ≡ Some e →
    vl_of e.item ≡ f.vl →
    MayWait f.latency e →
    e.time + f.latency ≤ until →
    has_turn turns place ≡ true
