-- The entries of a port whose flows are policed.
use Rattle.std.specs.Prelude.{◌≡◌, ℕ, ◌<◌, ◌≤◌, ◌==◌, All, Contains, IfSome, IsTrue, List, filter}
use Rattle.std.specs.Prelude.{map, reverse}
use Rattle.afdx_frame.specs.Flows.{Flow, IsPortAdmitted}
use Rattle.afdx_police.specs.Rule.{is_bag}
use Rattle.afdx_police.specs.Window.{Charged, accepted_of}
use Rattle.afdx_port.specs.Schedule.{Entry}
use Rattle.afdx_port.specs.ScheduleOf.{AreInOrder}
use Rattle.afdx_law_bounds.specs.Curve.{wire}

-- the flows are links of one table: each has one of the gaps, and no two have one identifier
pub record AreFlows (flows : List Flow) : Type 0 where
  pub gaps : All (λ f. IsTrue (is_bag f.link.bag_ms)) flows
  pub distinct : (f g : Flow) → Contains flows f → Contains flows g → f.vl ≡ g.vl → f ≡ g

module _ {X : Type 0} where
  -- an entry as the window rule sees it
  abbrev pub charged_as : (Entry X → ℕ) → Entry X → Charged
  charged_as charge_of e = record { time = e.time; charge = charge_of e }

  -- the entries of one link as the window rule sees them, the newest first
  abbrev pub charged_to : (X → ℕ) → (Entry X → ℕ) → ℕ → List (Entry X) → List Charged
  charged_to vl_of charge_of vl entries = reverse
      (map (charged_as charge_of) (filter (λ e. vl_of e.item == vl) entries))

  -- the frame may wait for so many nanoseconds and isn't too old yet
  abbrev pub MayWait : ℕ → Entry X → Type 0
  MayWait ns e = IfSome e.longest_wait (λ wait. ns ≤ wait)

  -- an entry is of one of the flows, has its class, and is charged its wire size at least, and the
  -- flow's greatest one at most
  pub record IsCharged (vl_of : X → ℕ) (charge_of : Entry X → ℕ) (flows : List Flow)
      (e : Entry X) : Type 0 where
    pub flow : Flow
    pub stands : Contains flows flow
    pub named : flow.vl ≡ vl_of e.item
    pub class : e.priority ≡ flow.priority
    pub at_least : wire e ≤ charge_of e
    pub at_most : charge_of e ≤ flow.link.smax

  -- each entry is so charged, and those of each flow are what the window rule accepts of some
  -- frames
  pub record ArePoliced (vl_of : X → ℕ) (charge_of : Entry X → ℕ) (flows : List Flow)
      (entries : List (Entry X)) : Type 0 where
    pub charged : All (λ e. IsCharged vl_of charge_of flows e) entries
    pub accepted : (f : Flow) →
        Contains flows f →
        (came : List Charged) × (charged_to vl_of charge_of f.vl entries ≡ accepted_of f.link came)

  -- the port is admitted with its flows, and its entries, which are policed, stand in the order of
  -- their times
  pub record IsRegulated (byte_ns buffer : ℕ) (flows : List Flow) (vl_of : X → ℕ)
      (charge_of : Entry X → ℕ)
      (entries : List (Entry X)) : Type 0 where
    pub line : 0 < byte_ns
    pub flows_are : AreFlows flows
    pub admitted : IsPortAdmitted byte_ns buffer flows
    pub in_order : AreInOrder entries
    pub policed : ArePoliced vl_of charge_of flows entries
