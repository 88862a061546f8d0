-- What is kept of all keys stands for what was given of each, and for the lines that are told.
use Rattle.std.specs.Prelude.{◌≡◌, ℕ, ◌+◌, ◌*◌, ◌≤◌, Bool, true, false, ◌&&◌, nat_eq, nat_lt, is_some, map, reverse, List, [], ◌∷◌, ◌++◌, length, get_or, All, Contains, Option, Some, None, Vec, if◌then◌else◌}
use Rattle.std.specs.declared.alloc.Global.{Global}
use Rattle.afdx_config.specs.Rows.{Rows, LinkRow}
use Rattle.std.specs.List.{list_any}
use Rattle.afdx_frame.specs.Sides.{is_side}
use Rattle.afdx_frame.specs.declared.link.Side.{Side}
use Rattle.afdx_input_runs.specs.Joining.{Frame}
use Rattle.afdx_police.specs.Arrival.{Arrival}
use Rattle.afdx_conform.specs.Streams.{Gone}
use Rattle.afdx_command_conform.specs.Awaited.{awaited, is_before, rank_of}
use Rattle.afdx_command_conform.specs.Choices.{Choices}
use Rattle.afdx_command_conform.specs.Frames.{arrivals_of, frames_of, link_to, strangers_of, terms_at}
use Rattle.afdx_command_conform.specs.Keys.{is_key, is_link, key_place}
use Rattle.afdx_command_conform.specs.Lines.{AreInOrder, Due, last_rank, of_key, stranger_due}
use Rattle.afdx_command_conform.specs.Tapped.{judged_to}
use Rattle.afdx_command_conform.specs.Slots.{AreFalling, StrangersStand, StreamEnds, StreamStands}
use Rattle.afdx_command_conform.specs.Waiting.{slot_due}
use Rattle.afdx_command_conform.specs.declared.agenda.AgendaEntry.{AgendaEntry}
use Rattle.afdx_command_conform.specs.declared.kept.KeptByKey.{KeptByKey}
use Rattle.afdx_command_conform.specs.declared.key.Key.{Key}
use Rattle.afdx_command_conform.specs.declared.slot.Slot.{Slot}
use Rattle.afdx_command_conform.specs.declared.slot.Slot.TheVariants.{Nothing}

-- of a key: the arrivals and the frames of its stream, oldest first; the lines of frames that left
-- there and are of no stream, newest first
pub record Given : Type 0 where
  pub came : List Arrival
  pub left : List Gone
  pub strange : List Due

abbrev pub given_with : List Arrival → List Gone → List Due → Given
given_with came left strange = record { came = came; left = left; strange = strange }

abbrev pub nothing_given : Key → Given
nothing_given k = given_with [] [] []

-- one more, of this key
abbrev pub with_came : Key → Arrival → (Key → Given) → Key → Given
with_came key x given k =
    if is_key key k then given_with ((given k).came ++ x ∷ []) (given k).left (given k).strange
    else given k

abbrev pub with_left : Key → Gone → (Key → Given) → Key → Given
with_left key y given k =
    if is_key key k then given_with (given k).came ((given k).left ++ y ∷ []) (given k).strange
    else given k

abbrev pub with_strange : Key → Due → (Key → Given) → Key → Given
with_strange key d given k =
    if is_key key k then given_with (given k).came (given k).left (d ∷ (given k).strange)
    else given k

-- one more came to a link, of whose ports these are told
abbrev pub came_to : Side → ℕ → List ℕ → Arrival → (Key → Given) → Key → Given
came_to side place ports x given k =
    if is_side side k.side && is_link (Some place) k.link && list_any (λ q. nat_eq q k.port) ports
    then given_with ((given k).came ++ x ∷ []) (given k).left (given k).strange
    else given k

-- what the frames of both roles give, newest first
abbrev pub given_to : Rows → Choices → Key → List Frame → Option LinkRow → Given
given_to t c k frames None = given_with [] [] []
given_to t c k frames (Some l) = given_with (reverse (arrivals_of t c l.vl k.side frames))
    (reverse (frames_of t c l.vl k.side k.port frames)) []

abbrev pub given_by : Rows → Choices → List Frame → Key → Option ℕ → Given
given_by t c frames k None =
    given_with [] [] (map (stranger_due t k) (strangers_of t c k.side k.port frames))
given_by t c frames k (Some place) =
    given_to t c k frames (judged_to t c.sight k.side place k.port)

unfoldable pub given_of : Rows → Choices → List Frame → Key → Given
given_of t c frames k = given_by t c frames k k.link

-- it is the key of a stream of this link
abbrev pub IsOfLink : Rows → Key → LinkRow → Option ℕ → Type 0
IsOfLink t k l None = ⊥
IsOfLink t k l (Some place) = link_to t place k.port ≡ Some l

abbrev pub IsStreamOf : Rows → Key → LinkRow → Type 0
IsStreamOf t k l = IsOfLink t k l k.link

-- what is kept of a key
abbrev pub slot_at : List Slot → Key → Slot
slot_at slots k = get_or slots (key_place k) Nothing

abbrev pub kept_with : Vec Slot Global → List AgendaEntry → KeptByKey
kept_with slots agenda = record { slots = slots; agenda = agenda }

-- a time is said, no later than this one
abbrev pub IsSomeUpTo : ℕ → Option ℕ → Type 0
IsSomeUpTo time None = ⊥
IsSomeUpTo time (Some before) = before ≤ time

module _ (t : Rows) where
  -- a key of a stream of the tables, or of the frames of none at a port
  abbrev pub is_known_by : Key → Option ℕ → Bool
  is_known_by k None = nat_lt k.port 256
  is_known_by k (Some place) = is_some (link_to t place k.port)

  unfoldable pub is_known : Key → Bool
  is_known k = is_known_by k k.link

  -- none of them is due before that time, or at all
  abbrev pub IsNothingDue : Option ℕ → KeptByKey → Type 0
  IsNothingDue before kept = (k : Key) (m : ℕ) → is_known k ≡ true
      → slot_due (slot_at kept.slots.items k) ≡ Some m → is_before before (awaited m k) ≡ false

module _ (t : Rows) (c : Choices) (until : ℕ) where
  module _ (ended : Option ℕ) (time : ℕ) where
    -- what is kept of a stream of this link: before the end is known, or then
    abbrev pub LinkStandsBy : Option ℕ → Key → Given → List Due → Slot → LinkRow → Type 0
    LinkStandsBy None k given lines slot l =
        StreamStands (terms_at t c until l k.port) k given.came given.left lines time slot
    LinkStandsBy (Some end) k given lines slot l = (end ≡ until)
        × StreamEnds (terms_at t c until l k.port) k given.came given.left lines slot

    abbrev pub LinkStands : Key → Given → List Due → Slot → Option LinkRow → Type 0
    LinkStands k given lines slot None = ⊥
    LinkStands k given lines slot (Some l) = LinkStandsBy ended k given lines slot l

    abbrev pub KeyStandsBy : Key → Given → List Due → Slot → Option ℕ → Type 0
    KeyStandsBy k given lines slot None = StrangersStand k given.strange lines slot
    KeyStandsBy k given lines slot (Some place) =
        LinkStands k given lines slot (link_to t place k.port)

    unfoldable pub KeyStands : Key → Given → List Due → Slot → Type 0
    KeyStands k given lines slot = KeyStandsBy k given lines slot k.link

    -- of each key what it is given is kept; what is due is awaited, behind what is told
    pub record AreKept (given : Key → Given) (lines : List Due) (kept : KeptByKey) : Type 0 where
      pub stand : (k : Key) → is_known t k ≡ true
          → KeyStands k (given k) (of_key k lines) (slot_at kept.slots.items k)
      pub none : (k : Key) → is_known t k ≡ false → of_key k lines ≡ []
      pub count : length kept.slots.items ≡ 512 + 64 * length t.links
      pub on_agenda : (k : Key) (m : ℕ) → is_known t k ≡ true
          → slot_due (slot_at kept.slots.items k) ≡ Some m → Contains kept.agenda (awaited m k)
      pub known : All (λ e. is_known t e.key ≡ true) kept.agenda
      pub behind : (k : Key) (m : ℕ) → is_known t k ≡ true
          → slot_due (slot_at kept.slots.items k) ≡ Some m
          → last_rank lines ≤ rank_of (awaited m k)
      pub in_order : AreInOrder lines
      pub early : ended ≡ None → last_rank lines ≤ time * 18446744073709551616
      pub falling : (k : Key) → AreFalling (given k).strange
