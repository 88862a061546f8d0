-- What a switch keeps of its links: their lines, in the order of the tables, and where each is.
use Rattle.std.specs.Prelude.{◌≡◌, ℕ, ◌+◌, ◌<◌, ◌≤◌, ◌==◌, Bool, true, false, Option, Some, None, List, ◌∷◌, length, slice_get, slice_set}
use Rattle.std.specs.List.{list_any}
use Rattle.afdx_frame.specs.Ports.{last_port}
use Rattle.afdx_frame.specs.declared.link.Side.{Side}
use Rattle.afdx_police.specs.Arrival.{Arrival, own, names}
use Rattle.afdx_police.specs.LinkAccounts.{StandsForOwn, IsOfferedAs, last_time}
use Rattle.afdx_police.specs.Rule.{Rule}
use Rattle.afdx_police.specs.Verdicts.{reason_after}
use Rattle.afdx_police.specs.declared.account.LinkAccount.{LinkAccount}
use Rattle.afdx_police.specs.declared.shape.Reason.{Reason}
use Rattle.afdx_law_bounds.specs.Outputs.{Row}
use Rattle.afdx_switch.specs.declared.line.Line.{Line}

-- the place is one of these
unfoldable pub is_among : ℕ → List ℕ → Bool
is_among place places = list_any (λ p. p == place) places

-- places of output ports, each once
pub record ArePlaces (places : List ℕ) : Type 0 where
  pub few : length places ≤ last_port
  pub within : (k place : ℕ) → slice_get places k ≡ Some place → place < last_port
  pub once : (j k place : ℕ) →
      slice_get places j ≡ Some place →
      slice_get places k ≡ Some place →
      j ≡ k

-- a link's line is the one that its own arrivals leave
pub record IsLine (side : Side) (arrivals : List Arrival) (r : Row) (line : Line) : Type 0 where
  pub account : StandsForOwn r.rule line.account (own r.rule.vl side arrivals)
  pub priority : line.priority ≡ r.priority
  pub longest_wait : line.longest_wait ≡ r.longest_wait
  pub goes : (place : ℕ) →
      place < last_port →
      is_among place line.goes.items ≡ r.goes_to (place + 1)

-- the row of this identifier stands here and nowhere else
pub record IsPlace (rows : List Row) (vl place : ℕ) : Type 0 where
  pub row : Row
  pub stands : slice_get rows place ≡ Some row
  pub named : row.rule.vl ≡ vl
  pub only : (j : ℕ) (s : Row) → slice_get rows j ≡ Some s → s.rule.vl ≡ vl → j ≡ place

-- where the row of an identifier stands, if there is one
abbrev pub IsPlaceOf : List Row → ℕ → Option ℕ → Type 0
IsPlaceOf rows vl None = (j : ℕ) (s : Row) → slice_get rows j ≡ Some s → s.rule.vl ≡ vl → ⊥
IsPlaceOf rows vl (Some place) = IsPlace rows vl place

-- the row that the bytes of a frame name stands here and nowhere else
pub record IsNamedAt (rows : List Row) (bytes : List ℕ) (place : ℕ) : Type 0 where
  pub row : Row
  pub stands : slice_get rows place ≡ Some row
  pub named : names row.rule.vl bytes ≡ true
  pub only : (j : ℕ) (s : Row) →
      slice_get rows j ≡ Some s →
      names s.rule.vl bytes ≡ true →
      j ≡ place

-- where the row stands that the bytes of a frame name, if there is one
abbrev pub IsNamed : List Row → List ℕ → Option ℕ → Type 0
IsNamed rows bytes None =
    (j : ℕ) (s : Row) → slice_get rows j ≡ Some s → names s.rule.vl bytes ≡ false
IsNamed rows bytes (Some place) = IsNamedAt rows bytes place

-- the line at this place was offered a frame of so many bytes, which is dropped for this reason if
-- there is one: its account is as the offer leaves it, and nothing else changed
pub record IsCharged (time size place : ℕ) (line : Line) (dropped : Option Reason)
    (old new : List Line) : Type 0 where
  pub account : LinkAccount
  pub set : new ≡ slice_set old place (record line { account = account })
  pub time_is : last_time account ≡ time
  pub answer : (rule : Rule) (past : List Arrival) (x : Arrival) →
      StandsForOwn rule line.account past →
      IsOfferedAs rule x (record { time = time; length = size }) →
      dropped ≡ reason_after rule past x
  pub stands : (rule : Rule) (past : List Arrival) (x : Arrival) →
      StandsForOwn rule line.account past →
      IsOfferedAs rule x (record { time = time; length = size }) →
      StandsForOwn rule account (x ∷ past)
