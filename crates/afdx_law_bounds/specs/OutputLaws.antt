-- What admission promises of an output port, over a whole list of arrivals.
use Rattle.std.specs.Prelude.{◌≡◌, ℕ, ◌+◌, ◌<◌, ◌≤◌, true, false, All, Contains, IfSome, Some, List}
use Rattle.std.specs.Prelude.{◌∷◌, reverse, slice_get}
use Rattle.afdx_frame.specs.Flows.{IsPortAdmitted}
use Rattle.afdx_police.specs.Arrival.{Arrival, own}
use Rattle.afdx_police.specs.Verdicts.{accepted_own}
use Rattle.afdx_port.specs.Due.{IsAfter}
use Rattle.afdx_port.specs.History.{due_at}
use Rattle.afdx_port.specs.Schedule.{Entry, Turn, has_turn, IsNext, AreTurns}
use Rattle.afdx_law_bounds.specs.Offered.{is_lost}
use Rattle.afdx_law_bounds.specs.Policed.{charged_to, IsRegulated}
use Rattle.afdx_law_bounds.specs.Outputs.{Row, Output, AreRows, flows_at, AreTimed, sends, entry_of}
use Rattle.afdx_law_bounds.specs.Outputs.{offers_at, entries_at, Carries}

-- the port is admitted with the flows of these rows
pub record IsServed (rows : List Row) (o : Output) : Type 0 where
  pub line : 0 < o.byte_ns
  pub rows_are : AreRows rows
  pub admitted : IsPortAdmitted o.byte_ns o.buffer (flows_at o.number rows)

-- an arrival that a row sends to the port is its newest offer
abbrev pub SentIsOffered : Type 0 → Type 0
SentIsOffered X =
    (item_of : Arrival → X) (rows : List Row) (o : Output) (past : List Arrival) (x : Arrival)
    (r : Row) →
    AreRows rows →
    Contains rows r →
    sends o past x r ≡ true →
    offers_at item_of rows o (x ∷ past) ≡ entry_of item_of r x ∷ offers_at item_of rows o past

-- and one that no row sends there changes nothing
abbrev pub UnsentIsNot : Type 0 → Type 0
UnsentIsNot X =
    (item_of : Arrival → X) (rows : List Row) (o : Output) (past : List Arrival) (x : Arrival) →
    ((r : Row) → Contains rows r → sends o past x r ≡ false) →
    offers_at item_of rows o (x ∷ past) ≡ offers_at item_of rows o past

-- the entries are in order and policed
abbrev pub EntriesAreRegulated : Type 0 → Type 0
EntriesAreRegulated X =
    (item_of : Arrival → X) (vl_of : X → ℕ) (charge_of : Entry X → ℕ) (rows : List Row) (o : Output)
    (arrivals : List Arrival) →
    IsServed rows o →
    Carries item_of vl_of charge_of rows →
    AreTimed arrivals →
    IsRegulated o.byte_ns o.buffer (flows_at o.number rows) vl_of charge_of
    (entries_at item_of rows o arrivals)

-- those of each link that goes there are exactly what is accepted of its own arrivals on the port's
-- side
abbrev pub EntriesAreAccepted : Type 0 → Type 0
EntriesAreAccepted X =
    (item_of : Arrival → X) (vl_of : X → ℕ) (charge_of : Entry X → ℕ) (rows : List Row) (o : Output)
    (arrivals : List Arrival) (r : Row) →
    IsServed rows o →
    Carries item_of vl_of charge_of rows →
    AreTimed arrivals →
    Contains rows r →
    r.goes_to o.number ≡ true →
    charged_to vl_of charge_of r.rule.vl (entries_at item_of rows o arrivals) ≡ accepted_own r.rule
    (own r.rule.vl o.side arrivals)

-- all that the port is offered enters there: nothing is lost
abbrev pub OffersEnter : Type 0 → Type 0
OffersEnter X =
    (item_of : Arrival → X) (vl_of : X → ℕ) (charge_of : Entry X → ℕ) (rows : List Row) (o : Output)
    (arrivals : List Arrival) →
    IsServed rows o →
    Carries item_of vl_of charge_of rows →
    AreTimed arrivals →
    entries_at item_of rows o arrivals ≡ reverse (offers_at item_of rows o arrivals)

-- an arrival that is accepted after these isn't lost
abbrev pub ArrivalIsKept : Type 0 → Type 0
ArrivalIsKept X =
    (item_of : Arrival → X) (vl_of : X → ℕ) (charge_of : Entry X → ℕ) (rows : List Row) (o : Output)
    (past : List Arrival) (x : Arrival) (r : Row) →
    IsServed rows o →
    Carries item_of vl_of charge_of rows →
    AreTimed (x ∷ past) →
    Contains rows r →
    sends o past x r ≡ true →
    is_lost o.byte_ns o.buffer (entries_at item_of rows o past) (entry_of item_of r x) ≡ false

-- the turns, each next after those before it, of the port's entries after these arrivals
abbrev pub AreTurnsAt : {X : Type 0} → (Arrival → X) → List Row → Output → List Arrival →
    List (Turn X) → Type 0
AreTurnsAt item_of rows o arrivals turns =
    AreTurns o.byte_ns (entries_at item_of rows o arrivals) turns

-- each accepted frame's turn is over within its link's latency
abbrev pub ArrivalsAreInTime : Type 0 → Type 0
ArrivalsAreInTime X =
    (item_of : Arrival → X) (vl_of : X → ℕ) (charge_of : Entry X → ℕ) (rows : List Row) (o : Output)
    (arrivals : List Arrival) (turns : List (Turn X)) (r : Row) →
    IsServed rows o →
    Carries item_of vl_of charge_of rows →
    AreTimed arrivals →
    Contains rows r →
    r.goes_to o.number ≡ true →
    AreTurnsAt item_of rows o arrivals turns →
    All (λ s. vl_of s.entry.item ≡ r.rule.vl → s.end ≤ s.entry.time + r.latency) turns

-- and is a slot, if the link's frames may wait as long as that
abbrev pub ArrivalsAreNotOld : Type 0 → Type 0
ArrivalsAreNotOld X =
    (item_of : Arrival → X) (vl_of : X → ℕ) (charge_of : Entry X → ℕ) (rows : List Row) (o : Output)
    (arrivals : List Arrival) (turns : List (Turn X)) (r : Row) →
    IsServed rows o →
    Carries item_of vl_of charge_of rows →
    AreTimed arrivals →
    Contains rows r →
    r.goes_to o.number ≡ true →
    AreTurnsAt item_of rows o arrivals turns →
    IfSome r.longest_wait (λ wait. r.latency ≤ wait) →
    All (λ s. vl_of s.entry.item ≡ r.rule.vl → s.too_old ≡ false) turns

-- and where no further turn is given by `until`, it has had that turn if its latency is over by
-- then
abbrev pub ArrivalsHaveLeft : Type 0 → Type 0
ArrivalsHaveLeft X =
    (item_of : Arrival → X) (vl_of : X → ℕ) (charge_of : Entry X → ℕ) (rows : List Row) (o : Output)
    (arrivals : List Arrival) (turns : List (Turn X)) (r : Row) (until place : ℕ) (e : Entry X) →
    IsServed rows o →
    Carries item_of vl_of charge_of rows →
    AreTimed arrivals →
    Contains rows r →
    r.goes_to o.number ≡ true →
    AreTurnsAt item_of rows o arrivals turns →
    IfSome r.longest_wait (λ wait. r.latency ≤ wait) →
    ((s : Turn X) → IsNext o.byte_ns (entries_at item_of rows o arrivals) turns s →
    IsAfter until (due_at s)) →
    slice_get (entries_at item_of rows o arrivals) place ≡ Some e →
    vl_of e.item ≡ r.rule.vl →
    e.time + r.latency ≤ until →
    has_turn turns place ≡ true
