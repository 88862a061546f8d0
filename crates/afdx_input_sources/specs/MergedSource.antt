-- What is known of two sources that are read at once, from item to item. Of both comes what is
-- earlier, of the first where both have the same time; what has no time comes as soon as it is
-- found.
use Rattle.std.specs.Prelude.{ℕ, ◌≡◌, ◌≤◌, ◌<◌, ◌+◌, ◌⊎◌, ⊤, true, false, List, [], ◌∷◌, length, map, nat_lt, Option, Some, None, if◌then◌else◌}
use Rattle.afdx_frame.specs.declared.by_side.BySide.{BySide}
use Rattle.afdx_input_lines.specs.declared.fault.RunFault.{RunFault}
use Rattle.afdx_input_lines.specs.declared.role.ByRole.{ByRole}
use Rattle.afdx_input_sources.specs.Engine.{Item}
use Rattle.afdx_input_sources.specs.declared.ahead.Ahead.{Ahead}
use Rattle.afdx_input_sources.specs.declared.ahead.AtHead.{AtHead}
use Rattle.afdx_input_sources.specs.declared.ahead.AtHead.TheVariants as at
use Rattle.afdx_input_sources.specs.declared.merged.Merged.{Merged}
use Rattle.afdx_input_sources.specs.declared.merged.Nth.{Nth}
use Rattle.afdx_input_sources.specs.declared.merged.Nth.TheVariants.{First, Second}
use Rattle.afdx_input_sources.specs.Merging.{is_earlier}

-- the time of an item, if it has one; and no source gives more items than so many
pub record Order (H : Type 0) : Type 0 where
  pub time : H → Option ℕ
  pub most : ℕ

abbrev pub or_before : Option ℕ → ℕ → ℕ
or_before (Some time) latest = time
or_before None latest = latest

-- the time of the newest item that has one, or 0
unfoldable pub latest_by : {H : Type 0} → (H → Option ℕ) → List (Item H) → ℕ
latest_by time [] = 0
latest_by time (x ∷ past) = or_before (time x.head) (latest_by time past)

-- an item comes after these, no earlier, and there are not too many
pub record IsInTurn {H : Type 0} (order : Order H) (past : List (Item H)) (x : Item H)
    : Type 0 where
  pub later : latest_by order.time past ≤ latest_by order.time (x ∷ past)
  pub few : length past < order.most

-- an item of one of two sources
pub record OfTwo (H : Type 0) : Type 0 where
  pub from : Nth
  pub item : Item H

abbrev pub items_of : {H : Type 0} → List (OfTwo H) → List (Item H)
items_of past = map (λ x. x.item) past

-- those of the first, or of the second
abbrev pub with_own : {H : Type 0} → (wanted from : Nth) → Item H → List (Item H) → List (Item H)
with_own First First x past = x ∷ past
with_own Second Second x past = x ∷ past
with_own _ _ x past = past

unfoldable pub taken_of : {H : Type 0} → Nth → List (OfTwo H) → List (Item H)
taken_of n [] = []
taken_of n (x ∷ past) = with_own n x.from x.item (taken_of n past)

-- ---- which comes first

-- what comes next of a source: nobody looked for it, it is this item, or nothing
pub data Front (H : Type 0) : Type 0 where
  Unsought : Front H
  Stands : Item H → Front H
  Gone : Front H

abbrev pub front_by : {H : Type 0} → AtHead → Item H → Front H
front_by at.Unknown x = Unsought
front_by (at.Item time) x = Stands x
front_by at.Over x = Gone

module _ {H : Type 0} (time : H → Option ℕ) where
  -- an item of the first, of this time, comes before what stands of the second
  abbrev pub IsFirst : Option ℕ → Front H → Type 0
  IsFirst None y = ⊤
  IsFirst (Some t) Unsought = ⊥
  IsFirst (Some t) (Stands y) = is_earlier (time y.head) (Some t) ≡ false
  IsFirst (Some t) Gone = ⊤

  -- an item of the second does, before what stands of the first
  abbrev pub IsBefore : Option ℕ → Front H → Type 0
  IsBefore t Unsought = ⊥
  IsBefore t (Stands x) = is_earlier t (time x.head) ≡ true
  IsBefore t Gone = ⊤

  abbrev pub CameBy : (before : Front H → Front H → Type 0) → Nth → Item H → (x y : Front H) →
      Type 0
  CameBy before First z x y = IsFirst (time z.head) y × before (Stands z) y
  CameBy before Second z x y = IsBefore (time z.head) x × before x (Stands z)

  -- of both sources these came first, and next come these
  abbrev pub CameFirst : List (OfTwo H) → (x y : Front H) → Type 0
  CameFirst [] x y = ⊤
  CameFirst (z ∷ past) x y = CameBy (CameFirst past) z.from z.item x y

-- the time of the newest of both that has one, or 0
abbrev pub latest_of_both : {H : Type 0} → (H → Option ℕ) → List (OfTwo H) → ℕ
latest_of_both time past = latest_by time (items_of past)

-- ---- one of the two

-- what comes next of it: the item at its head is the one that its source gave last
abbrev pub front_of : {H S : Type 0} → (S → Item H) → Ahead S → Front H
front_of current ahead = front_by ahead.head (current ahead.source)

-- no item that comes is earlier than this time
abbrev pub NoneIsBefore : {H : Type 0} → (H → Option ℕ) → ℕ → AtHead → List (Item H) → Type 0
NoneIsBefore time latest (at.Item t) taken = latest ≤ t
NoneIsBefore time latest at.Unknown taken = latest ≤ latest_by time taken
NoneIsBefore time latest at.Over taken = ⊤

-- how many more items can be taken of it
abbrev pub left_by : ℕ → AtHead → ℕ
left_by left at.Unknown = left
left_by left (at.Item t) = left + 1
left_by left at.Over = 0

abbrev pub left_ahead : {S : Type 0} → (S → ℕ) → Ahead S → ℕ
left_ahead left_of ahead = left_by (left_of ahead.source) ahead.head

-- an item stands at its head, or it is over
abbrev pub IsKnown : AtHead → Type 0
IsKnown at.Unknown = ⊥
IsKnown _ = ⊤

-- its head was looked for, unless it was known
abbrev pub IsSought : {S : Type 0} → Ahead S → Ahead S → Type 0
IsSought old new = (new ≡ old) ⊎ (old.head ≡ at.Unknown)

module _ {H : Type 0} (order : Order H) (follows : List (Item H) → Item H → Type 0) where
  -- these were taken of it, and this one was given last
  abbrev pub IsAheadBy : (gave ended : List (Item H) → Type 0) → Item H → AtHead →
      List (Item H) → Type 0
  IsAheadBy gave ended x (at.Item t) taken =
      gave (x ∷ taken) × follows taken x × (order.time x.head ≡ Some t)
  IsAheadBy gave ended x at.Unknown taken = gave taken
  IsAheadBy gave ended x at.Over taken = ended taken

  -- this one may come after those of both
  pub record FollowsBoth (past : List (OfTwo H)) (x : OfTwo H) : Type 0 where
    pub own : follows (taken_of x.from past) x.item
    pub later : latest_of_both order.time past ≤ latest_of_both order.time (x ∷ past)
    pub few : length past < order.most + order.most

  module _ {S I : Type 0} (current : S → Item H)
      (gave ended : I → S → I → List (Item H) → Type 0) where
    -- this is known of one, behind items of both of which the newest has this time
    pub record IsAhead (latest : ℕ) (start : I) (ahead : Ahead S) (input : I)
        (taken : List (Item H)) : Type 0 where
      pub known : IsAheadBy (gave start ahead.source input) (ended start ahead.source input)
          (current ahead.source) ahead.head taken
      pub none_before : NoneIsBefore order.time latest ahead.head taken
      pub few : length taken ≤ order.most

    -- it gave an item that comes at once, and nobody knows its head
    pub record GivesAtOnce (latest : ℕ) (start : I) (new : Ahead S) (input : I)
        (taken : List (Item H)) : Type 0 where
      pub still : new.head ≡ at.Unknown
      pub at_once : order.time (current new.source).head ≡ None
      pub own : follows taken (current new.source)
      pub gave_it : gave start new.source input (current new.source ∷ taken)
      pub none_before : latest ≤ latest_by order.time taken

    -- ---- both

    -- what is known of each, and these came first
    pub record AreMerged (start : BySide I) (merged : Merged S) (inputs : BySide I)
        (past : List (OfTwo H)) : Type 0 where
      pub first : IsAhead (latest_of_both order.time past) start.a merged.first inputs.a
          (taken_of First past)
      pub second : IsAhead (latest_of_both order.time past) start.b merged.second inputs.b
          (taken_of Second past)
      pub came_first : CameFirst order.time past (front_of current merged.first)
          (front_of current merged.second)

    -- and these are all
    pub record AreMergedToEnd (start : BySide I) (merged : Merged S) (inputs : BySide I)
        (past : List (OfTwo H)) : Type 0 where
      pub first : ended start.a merged.first.source inputs.a (taken_of First past)
      pub second : ended start.b merged.second.source inputs.b (taken_of Second past)
      pub came_first : CameFirst order.time past Gone Gone

    module _ (stopped : I → S → I → List (Item H) → RunFault → Type 0) where
      -- or the first stopped
      pub record StopsAtFirst (start : BySide I) (merged : Merged S) (inputs : BySide I)
          (past : List (OfTwo H)) (fault : RunFault) : Type 0 where
        pub from : merged.from ≡ First
        pub first : stopped start.a merged.first.source inputs.a (taken_of First past) fault
        pub second : IsAhead (latest_of_both order.time past) start.b merged.second inputs.b
            (taken_of Second past)
        pub came_first : CameFirst order.time past Unsought (front_of current merged.second)

      -- or the second, while it was known what stands at the head of the first
      pub record StopsAtSecond (start : BySide I) (merged : Merged S) (inputs : BySide I)
          (past : List (OfTwo H)) (fault : RunFault) : Type 0 where
        pub from : merged.from ≡ Second
        pub first : IsAhead (latest_of_both order.time past) start.a merged.first inputs.a
            (taken_of First past)
        pub second : stopped start.b merged.second.source inputs.b (taken_of Second past) fault
        pub known : IsKnown merged.first.head
        pub came_first : CameFirst order.time past (front_of current merged.first) Unsought

      abbrev pub StopsMerging : BySide I → Merged S → BySide I → List (OfTwo H) → RunFault →
          Type 0
      StopsMerging start merged inputs past fault =
          StopsAtFirst start merged inputs past fault ⊎ StopsAtSecond start merged inputs past fault

-- the inputs of both
abbrev pub inputs_of : {I : Type 0} → (a b : I) → BySide I
inputs_of a b = record { a = a; b = b }

-- of what came in, and of what left
abbrev pub inputs_by_role : {I : Type 0} → ByRole I → BySide I
inputs_by_role inputs = inputs_of inputs.came inputs.left

-- the first of these is what came in
abbrev pub roles_of : {I : Type 0} → BySide I → ByRole I
roles_of inputs = record { came = inputs.a; left = inputs.b }

-- the source that gave an item last, and that item
abbrev pub source_by : {S : Type 0} → Nth → Merged S → S
source_by First merged = merged.first.source
source_by Second merged = merged.second.source

abbrev pub item_given : {H S : Type 0} → (S → Item H) → Merged S → Item H
item_given current merged = current (source_by merged.from merged)

abbrev pub given : {H S : Type 0} → (S → Item H) → Merged S → OfTwo H
given current merged = record { from = merged.from; item = item_given current merged }

-- how many more can be given
abbrev pub left_in : {S : Type 0} → (S → ℕ) → Merged S → ℕ
left_in left_of merged = left_ahead left_of merged.first + left_ahead left_of merged.second

-- of which the next item is, once both heads are known
abbrev pub later_of : (y x : ℕ) → Nth
later_of y x = if nat_lt y x then Second else First

abbrev pub next_of : AtHead → AtHead → Option Nth
next_of (at.Item x) (at.Item y) = Some (later_of y x)
next_of (at.Item x) second = Some First
next_of first (at.Item y) = Some Second
next_of first second = None
