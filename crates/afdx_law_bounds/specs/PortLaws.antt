-- What is true of a port that stands for calls, where its entries regulate it.
use Rattle.std.specs.Prelude.{◌≡◌, ℕ, ◌+◌, ◌≤◌, true, false, All, Contains, List, [], ◌∷◌, ◌++◌}
use Rattle.std.specs.Prelude.{Some, slice_get}
use Rattle.afdx_frame.specs.Flows.{Flow}
use Rattle.afdx_port.specs.declared.port_state.PortState.{PortState}
use Rattle.afdx_port.specs.Facts.{Facts}
use Rattle.afdx_port.specs.Held.{IsQuiet}
use Rattle.afdx_port.specs.History.{PortHistory, StandsFor}
use Rattle.afdx_port.specs.Schedule.{Entry, has_turn, IsLost}
use Rattle.afdx_port.specs.ScheduleOf.{schedule_of}
use Rattle.afdx_law_bounds.specs.Policed.{MayWait, IsRegulated}

module _ {X : Type 0} where
  -- the port stands for these calls, and is regulated by what was put
  pub record StandsRegulated (facts : X → Facts) (p : PortState X) (h : PortHistory X)
      (flows : List Flow)
      (vl_of : X → ℕ)
      (charge_of : Entry X → ℕ) : Type 0 where
    pub stands : StandsFor facts p h
    pub regulated : IsRegulated h.byte_ns h.buffer flows vl_of charge_of h.entries

  -- a frame that leaves it so isn't lost
  abbrev pub PutIsKept : (X → Facts) → Type 0
  PutIsKept facts =
      (p : PortState X) (h : PortHistory X) (flows : List Flow) (vl_of : X → ℕ)
      (charge_of : Entry X → ℕ)
      (new : Entry X) →
      StandsRegulated facts p h flows vl_of charge_of →
      IsRegulated h.byte_ns h.buffer flows vl_of charge_of
      (h.entries ++ new ∷ []) →
      IsLost h.buffer h.entries (schedule_of h.byte_ns h.entries) new.time new.bytes → ⊥

  -- each frame that was taken was taken in time
  abbrev pub TakenAreInTime : (X → Facts) → Type 0
  TakenAreInTime facts = (p : PortState X) (h : PortHistory X) (flows : List Flow) (vl_of : X → ℕ)
      (charge_of : Entry X → ℕ) (f : Flow) →
      StandsRegulated facts p h flows vl_of charge_of →
      Contains flows f →
      All (λ s. vl_of s.entry.item ≡ f.vl → s.end ≤ s.entry.time + f.latency) h.taken

  -- none of them was dropped for its age that may wait as long as its link's latency
  abbrev pub TakenAreNotOld : (X → Facts) → Type 0
  TakenAreNotOld facts = (p : PortState X) (h : PortHistory X) (flows : List Flow) (vl_of : X → ℕ)
      (charge_of : Entry X → ℕ) (f : Flow) →
      StandsRegulated facts p h flows vl_of charge_of →
      Contains flows f →
      All (λ s. vl_of s.entry.item ≡ f.vl → MayWait f.latency s.entry → s.too_old ≡ false) h.taken

  -- and where the port gives nothing at t, each such frame whose latency is over by then was taken
  abbrev pub AllWereTaken : (X → Facts) → Type 0
  AllWereTaken facts =
      (p : PortState X) (h : PortHistory X) (flows : List Flow) (vl_of : X → ℕ)
      (charge_of : Entry X → ℕ)
      (f : Flow) (t place : ℕ) (e : Entry X) →
      StandsRegulated facts p h flows vl_of charge_of →
      Contains flows f →
      IsQuiet facts p t →
      slice_get h.entries place ≡ Some e →
      vl_of e.item ≡ f.vl →
      MayWait f.latency e →
      e.time + f.latency ≤ t →
      has_turn h.taken place ≡ true
