-- The entries of a port that is offered frames. A list of offers has the newest first.
use Rattle.std.specs.Prelude.{◌≡◌, ℕ, ◌+◌, Bool, nat_lt, if◌then◌else◌, List, [], ◌∷◌, ◌++◌}
use Rattle.std.specs.Prelude.{reverse}
use Rattle.afdx_frame.specs.Flows.{Flow}
use Rattle.afdx_port.specs.Schedule.{Entry, waiting_bytes}
use Rattle.afdx_port.specs.ScheduleOf.{schedule_of}
use Rattle.afdx_law_bounds.specs.Policed.{IsRegulated}

module _ {X : Type 0} where
  -- the frames that wait at the port leave no room for this one
  abbrev pub is_lost : ℕ → ℕ → List (Entry X) → Entry X → Bool
  is_lost byte_ns buffer entries new = nat_lt buffer
      (waiting_bytes entries (schedule_of byte_ns entries) new.time + new.bytes)

  -- the entries, by adding the last offer unless it is lost
  abbrev pub with_offer : ℕ → ℕ → List (Entry X) → Entry X → List (Entry X)
  with_offer byte_ns buffer entries new =
      if is_lost byte_ns buffer entries new then entries else entries ++ new ∷ []

  abbrev pub entries_of : ℕ → ℕ → List (Entry X) → List (Entry X)
  entries_of byte_ns buffer [] = []
  entries_of byte_ns buffer (new ∷ offers) =
      with_offer byte_ns buffer (entries_of byte_ns buffer offers) new

-- where the port is admitted, and all offers are policed and in order, each of them is an entry
abbrev pub OffersAreEntries : Type 0 → Type 0
OffersAreEntries X =
    (byte_ns buffer : ℕ) (flows : List Flow) (vl_of : X → ℕ) (charge_of : Entry X → ℕ)
    (offers : List (Entry X)) →
    IsRegulated byte_ns buffer flows vl_of charge_of (reverse offers) →
    entries_of byte_ns buffer offers ≡ reverse offers
