-- What admitted tables promise of each output port, whatever arrives.
use Rattle.std.specs.Prelude.{◌≡◌, ℕ, ◌+◌, ◌*◌, ◌≤◌, true, false, All, List, Some, reverse}
use Rattle.std.specs.Prelude.{slice_get}
use Rattle.afdx_frame.specs.declared.link.Side.{Side}
use Rattle.afdx_config.specs.Admission.{IsServing}
use Rattle.afdx_config.specs.Lawful.{IsLawfulSwitch}
use Rattle.afdx_config.specs.Rows.{SystemRow, LinkRow, Rows, is_to}
use Rattle.afdx_police.specs.Arrival.{Arrival}
use Rattle.afdx_port.specs.Due.{IsAfter}
use Rattle.afdx_port.specs.History.{due_at}
use Rattle.afdx_port.specs.Schedule.{Entry, Turn, has_turn, IsNext, AreTurns}
use Rattle.afdx_law_bounds.specs.Outputs.{AreTimed, offers_at, entries_at, link_in}
use Rattle.afdx_law_bounds.specs.Tables.{rows_of, byte_ns_at, output_at}

module _ {X : Type 0} where
  -- the output port to a system on a side, of lawful and admitted tables, to which all of these
  -- came; what it holds of a frame keeps the bytes
  pub record IsOutputOf (item_of : Arrival → X) (bytes_of : X → List ℕ) (t : Rows) (system : ℕ)
      (s : SystemRow) (arrivals : List Arrival) : Type 0 where
    pub lawful : IsLawfulSwitch t
    pub admitted : IsServing t
    pub stands : slice_get t.systems system ≡ Some s
    pub keeps_bytes : (x : Arrival) → bytes_of (item_of x) ≡ x.bytes
    pub timed : AreTimed arrivals

  -- the entries of the output port with this number
  abbrev pub entries_to : (Arrival → X) → Rows → Side → ℕ → List Arrival → List (Entry X)
  entries_to item_of t side port arrivals =
      entries_at item_of (rows_of t) (output_at t side port) arrivals

-- nothing is lost: its entries are all that is accepted of the links that go there
abbrev pub NothingIsLost : Type 0 → Type 0
NothingIsLost X =
    (item_of : Arrival → X) (bytes_of : X → List ℕ) (t : Rows) (side : Side) (system : ℕ)
    (s : SystemRow) (arrivals : List Arrival) →
    IsOutputOf item_of bytes_of t system s arrivals →
    entries_to item_of t side s.port arrivals ≡ reverse
    (offers_at item_of (rows_of t) (output_at t side s.port) arrivals)

-- each frame of a link has a slot that ends within the link's latency
abbrev pub EachHasItsSlot : Type 0 → Type 0
EachHasItsSlot X =
    (item_of : Arrival → X) (bytes_of : X → List ℕ) (t : Rows) (side : Side) (system : ℕ)
    (s : SystemRow) (arrivals : List Arrival) (turns : List (Turn X)) (place : ℕ) (l : LinkRow) →
    IsOutputOf item_of bytes_of t system s arrivals →
    slice_get t.links place ≡ Some l →
    is_to system l ≡ true →
    AreTurns (byte_ns_at t s.port) (entries_to item_of t side s.port arrivals) turns →
    All
    (λ z. link_in bytes_of z.entry.item ≡ l.vl →
    (z.too_old ≡ false) × (z.end ≤ z.entry.time + 1000 * l.latency_us)) turns

-- and has had it when no further turn is given by `until` and the latency is over by then
abbrev pub EachSlotHasCome : Type 0 → Type 0
EachSlotHasCome X =
    (item_of : Arrival → X) (bytes_of : X → List ℕ) (t : Rows) (side : Side) (system : ℕ)
    (s : SystemRow)
    (arrivals : List Arrival) (turns : List (Turn X)) (place : ℕ) (l : LinkRow) (until entry : ℕ)
    (e : Entry X) →
    IsOutputOf item_of bytes_of t system s arrivals →
    slice_get t.links place ≡ Some l →
    is_to system l ≡ true →
    AreTurns (byte_ns_at t s.port) (entries_to item_of t side s.port arrivals) turns →
    ((z : Turn X) →
    IsNext (byte_ns_at t s.port) (entries_to item_of t side s.port arrivals) turns z →
    IsAfter until (due_at z)) →
    slice_get (entries_to item_of t side s.port arrivals) entry ≡ Some e →
    link_in bytes_of e.item ≡ l.vl →
    e.time + 1000 * l.latency_us ≤ until →
    has_turn turns entry ≡ true
