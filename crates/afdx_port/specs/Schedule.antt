-- When the frames of an output port have their turns, as a predicate on a whole list of turns.
use Rattle.std.specs.Prelude.{◌≡◌, ℕ, ◌+◌, ◌*◌, ◌<◌, ◌≤◌, ◌==◌, nat_lt, Bool, true, false, if◌then◌else◌, List, [], ◌∷◌, length, filter, Option, Some, None, slice_get}
use Rattle.std.specs.List.{list_any}
use Rattle.afdx_frame.specs.Regulation.{wire_of}
use Rattle.afdx_frame.specs.declared.link.Priority.{Priority}
use Rattle.afdx_frame.specs.declared.link.Priority.TheVariants.{High}

-- a frame that the port took: when it came, its class, its length, how long it may wait for its
-- turn if there is a limit, and what it is
pub record Entry (X : Type 0) : Type 0 where
  pub time : ℕ
  pub priority : Priority
  pub bytes : ℕ
  pub longest_wait : Option ℕ
  pub item : X

-- the turn of an entry: its place in the list of entries, the turn's moment, when it is over, and
-- whether the frame is dropped as too old or has a slot
pub record Turn (X : Type 0) : Type 0 where
  pub place : ℕ
  pub entry : Entry X
  pub moment : ℕ
  pub end : ℕ
  pub too_old : Bool

-- for a frame that came at `time`, its longest wait is past at t
abbrev pub is_past : Option ℕ → ℕ → ℕ → Bool
is_past None time t = false
is_past (Some wait) time t = nat_lt (time + wait) t

-- how long a turn lasts: a drop takes no time, a slot the byte times of all that the frame takes on
-- the wire
abbrev pub lasting : ℕ → Bool → ℕ → ℕ
lasting byte_ns true bytes = 0
lasting byte_ns false bytes = wire_of bytes * byte_ns

module _ {X : Type 0} where
  -- one of the turns is that of the entry at this place
  abbrev pub has_turn : List (Turn X) → ℕ → Bool
  has_turn turns place = list_any (λ s. s.place == place) turns

  -- when the latest turn is over. A list of turns has the latest first
  abbrev pub end_of : List (Turn X) → ℕ
  end_of [] = 0
  end_of (s ∷ earlier) = s.end

  -- the entry stands at this place and has none of these turns
  pub record IsWithoutTurn (entries : List (Entry X)) (turns : List (Turn X)) (place : ℕ)
      (e : Entry X) : Type 0 where
    pub stands : slice_get entries place ≡ Some e
    pub without : has_turn turns place ≡ false

  -- after the earlier turns comes this one
  pub record IsNext (byte_ns : ℕ) (entries : List (Entry X)) (earlier : List (Turn X))
      (s : Turn X) : Type 0 where
    -- it is the turn of an entry without an earlier one: a drop exactly if the entry's longest wait
    -- is past at its moment, otherwise a slot
    pub own : IsWithoutTurn entries earlier s.place s.entry
    pub drops : s.too_old ≡ is_past s.entry.longest_wait s.entry.time s.moment
    pub lasts : s.end ≡ s.moment + lasting byte_ns s.too_old s.entry.bytes
    -- its moment comes when its entry has come and the turn before it is over, and is the least
    -- at which that turn is over and some entry without an earlier turn has come
    pub come : s.entry.time ≤ s.moment
    pub after : end_of earlier ≤ s.moment
    pub least : (t place : ℕ) (e : Entry X) →
        IsWithoutTurn entries earlier place e →
        e.time ≤ t →
        end_of earlier ≤ t →
        s.moment ≤ t
    -- at that moment no high entry without an earlier turn has come, unless its own entry is high
    pub high_first : (place : ℕ) (e : Entry X) →
        IsWithoutTurn entries earlier place e →
        e.time ≤ s.moment →
        e.priority ≡ High →
        s.entry.priority ≡ High
    -- no entry of the same class that stands before its own is without an earlier turn
    pub in_order : (place : ℕ) (e : Entry X) →
        IsWithoutTurn entries earlier place e →
        e.priority ≡ s.entry.priority →
        s.place ≤ place

  -- each turn is the next one after those before it
  abbrev pub AreTurns : ℕ → List (Entry X) → List (Turn X) → Type 0
  AreTurns byte_ns entries [] = Unit {0}
  AreTurns byte_ns entries (s ∷ earlier) =
      IsNext byte_ns entries earlier s × AreTurns byte_ns entries earlier

  -- these are the turns of these entries, one for each
  pub record IsSchedule (byte_ns : ℕ) (entries : List (Entry X))
      (turns : List (Turn X)) : Type 0 where
    pub each_next : AreTurns byte_ns entries turns
    pub all_have_turns : (place : ℕ) → place < length entries → has_turn turns place ≡ true

  -- the turns with a moment before t
  abbrev pub begun_before : ℕ → List (Turn X) → List (Turn X)
  begun_before t turns = filter (λ s. nat_lt s.moment t) turns

  -- the lengths of those entries that have none of these turns. The first entry stands at this
  -- place
  abbrev pub bytes_without_turn : List (Turn X) → ℕ → List (Entry X) → ℕ
  bytes_without_turn turns place [] = 0
  bytes_without_turn turns place (e ∷ es) =
      (if has_turn turns place then 0 else e.bytes) + bytes_without_turn turns (place + 1) es

  -- the lengths of the entries that wait at t: no turn of theirs has a moment before t
  abbrev pub waiting_bytes : List (Entry X) → List (Turn X) → ℕ → ℕ
  waiting_bytes entries turns t = bytes_without_turn (begun_before t turns) 0 entries

  -- a frame of this length that is offered at t is lost
  abbrev pub IsLost : ℕ → List (Entry X) → List (Turn X) → ℕ → ℕ → Type 0
  IsLost buffer entries turns t bytes = buffer < waiting_bytes entries turns t + bytes
