-- What comes in, leaves or is told while a run goes on, of whatever is kept. `done` says what holds
-- where a call did its work: else memory was refused.
use Rattle.std.specs.Prelude.{◌≡◌, ℕ, ◌+◌, ◌<◌, ◌≤◌, true, List, [], ◌∷◌, All, length, Option, Some, None, slice_get}
use Rattle.std.specs.List.{AllByRecursion}
use Rattle.std.specs.List.Sorted.{IsPermutation}
use Rattle.afdx_law_bounds.specs.Tables.{port_of}
use Rattle.afdx_config.specs.Lawful.{IsLawfulSwitch}
use Rattle.afdx_config.specs.Rows.{LinkRow, Rows, is_to}
use Rattle.afdx_conform.specs.Explanations.{from_time}
use Rattle.afdx_conform.specs.Growing.{MayCome, MayLeave}
use Rattle.afdx_conform.specs.Histories.{nothing_judged}
use Rattle.afdx_conform.specs.Leeway.{reach}
use Rattle.afdx_conform.specs.Limits.{gone_of}
use Rattle.afdx_conform.specs.Marks.{IsJudged, arrival_of}
use Rattle.afdx_conform.specs.Ranges.{most_held}
use Rattle.afdx_conform.specs.Standing.{StandsFor, due_of}
use Rattle.afdx_conform.specs.Streams.{Gone, Terms}
use Rattle.afdx_conform.specs.declared.arrived.Arrived.{Arrived}
use Rattle.afdx_conform.specs.declared.limits.LeftFrame as left
use Rattle.afdx_conform.specs.declared.streaming.Stream.{Stream}
use Rattle.afdx_input_runs.specs.Joining.{Frame}
use Rattle.afdx_command_conform.specs.Awaited.{rank_of}
use Rattle.afdx_command_conform.specs.Choices.{Choices, counts}
use Rattle.afdx_command_conform.specs.Frames.{terms_at}
use Rattle.afdx_command_conform.specs.Keeping.{AreKept, Given, IsStreamOf, is_known, kept_with, slot_at, with_came, with_left, with_strange}
use Rattle.afdx_command_conform.specs.Keys.{IsKey, key_of}
use Rattle.afdx_command_conform.specs.Lines.{Due}
use Rattle.afdx_command_conform.specs.Ruled.{IsRuled}
use Rattle.afdx_command_conform.specs.Slots.{AreFalling, IsStrange, IsStream, told_at, waiting_due}
use Rattle.afdx_command_conform.specs.Standing.{IsBehindAll, StreamsStand}
use Rattle.afdx_command_conform.specs.Tapped.{place_named}
use Rattle.afdx_command_conform.specs.declared.agenda.AgendaEntry.{AgendaEntry}
use Rattle.afdx_command_conform.specs.declared.kept.KeptByKey.{KeptByKey}
use Rattle.afdx_command_conform.specs.declared.kept.Lines.{Lines}
use Rattle.afdx_command_conform.specs.declared.key.Key.{Key}
use Rattle.afdx_command_conform.specs.declared.outlets.Outlet.{Outlet}
use Rattle.afdx_command_conform.specs.declared.outlets.StreamRules.{StreamRules}
use Rattle.afdx_command_conform.specs.declared.strangers.Stranger.{Stranger}
use Rattle.afdx_command_conform.specs.declared.streams.Streams.{Streams}

-- ---- of one key

module _ (done : Type 0 → Type 0) (old new : KeptByKey) where
  -- a stream of which nothing came is kept in the place of none
  abbrev pub PutsStream : Key → Stream → Type 0
  PutsStream key stream =
      (t : Rows) (c : Choices) (until time : ℕ) (given : Key → Given) (lines : List Due)
      (l : LinkRow) → IsLawfulSwitch t → IsStreamOf t key l →
      StandsFor (terms_at t c until l key.port) [] [] nothing_judged time stream →
      due_of stream ≡ None →
      (IsStream (slot_at old.slots.items key) → ⊥) →
      AreKept t c until None time given lines old →
      done (AreKept t c until None time given lines new × IsStream (slot_at new.slots.items key))

  -- an arrival is the newest that is given of its stream, which is kept
  abbrev pub AddsArrival : Key → Arrived → Type 0
  AddsArrival key arrived =
      (t : Rows) (c : Choices) (until time : ℕ) (given : Key → Given) (lines : List Due)
      (l : LinkRow) → IsLawfulSwitch t → IsStreamOf t key l →
      IsJudged (terms_at t c until l key.port) arrived →
      MayCome (terms_at t c until l key.port) (given key).came time (arrival_of arrived) →
      IsStream (slot_at old.slots.items key) →
      AreKept t c until None time given lines old →
      done (AreKept t c until None time (with_came key (arrival_of arrived) given) lines new)

  -- so is a frame
  abbrev pub AddsFrame : Key → left.LeftFrame → Type 0
  AddsFrame key frame =
      (t : Rows) (c : Choices) (until time : ℕ) (given : Key → Given) (lines : List Due)
      (l : LinkRow) → IsLawfulSwitch t → IsStreamOf t key l →
      MayLeave (terms_at t c until l key.port) (given key).left time (gone_of frame) →
      IsStream (slot_at old.slots.items key) →
      AreKept t c until None time given lines old →
      done (AreKept t c until None time (with_left key (gone_of frame) given) lines new)

  -- a frame of no stream is the newest of those that are given of its port, where there is room for
  -- such
  abbrev pub AddsStranger : Key → Stranger → Type 0
  AddsStranger key stranger =
      (t : Rows) (c : Choices) (until time : ℕ) (given : Key → Given) (lines : List Due) →
      IsLawfulSwitch t → key.link ≡ None → is_known t key ≡ true →
      time ≤ stranger.time → AreFalling (waiting_due key stranger ∷ (given key).strange) →
      IsStrange (slot_at old.slots.items key) →
      AreKept t c until None time given lines old →
      done (AreKept t c until None time (with_strange key (waiting_due key stranger) given) lines
      new)

  -- and where there may be none
  abbrev pub TakesStranger : Key → Stranger → Type 0
  TakesStranger key stranger =
      (t : Rows) (c : Choices) (until time : ℕ) (given : Key → Given) (lines : List Due) →
      IsLawfulSwitch t → time ≤ stranger.time →
      AreFalling (waiting_due key stranger ∷ (given key).strange) →
      AreKept t c until None time given lines old →
      done (AreKept t c until None time (with_strange key (waiting_due key stranger) given) lines
      new)

  -- at an outlet, by the tables and what may be off
  module _ (rules : StreamRules) (outlet : Outlet) where
    -- its stream is kept in the place of none
    abbrev pub MakesStream : Key → Type 0
    MakesStream key =
        let t = rules.tables.now in
        (c : Choices) (until time : ℕ) (given : Key → Given) (lines : List Due) (l : LinkRow) →
        IsLawfulSwitch t → IsStreamOf t key l → slice_get t.links outlet.link ≡ Some l →
        port_of t outlet.system.0 ≡ key.port → IsRuled rules c →
        (IsStream (slot_at old.slots.items key) → ⊥) →
        AreKept t c until None time given lines old →
        done (AreKept t c until None time given lines new
        × IsStream (slot_at new.slots.items key))

    -- an arrival, judged by the link's rule, of no earlier time than those before it, is the newest
    -- that is given of that one
    abbrev pub TakesArrival : Arrived → Type 0
    TakesArrival x =
        let t = rules.tables.now in
        (c : Choices) (until time : ℕ) (given : Key → Given) (lines : List Due) (l : LinkRow) →
        slice_get t.links outlet.link ≡ Some l → is_to outlet.system.0 l ≡ true →
        IsRuled rules c →
        ((z : Terms) → z.rule ≡ c.sight.rule l → IsJudged z x) →
        time ≤ x.time → from_time c.by.start ≤ x.time →
        AllByRecursion (λ w. w.time ≤ x.time) (given (key_of t outlet)).came →
        length (given (key_of t outlet)).came + 1 < most_held →
        AreKept t c until None time given lines old →
        done (AreKept t c until None time (with_came (key_of t outlet) (arrival_of x) given) lines
        new)

    -- so is a frame that left there
    abbrev pub TakesFrame : Gone → Type 0
    TakesFrame y =
        let t = rules.tables.now in
        (c : Choices) (until time : ℕ) (given : Key → Given) (lines : List Due) (l : LinkRow) →
        slice_get t.links outlet.link ≡ Some l → is_to outlet.system.0 l ≡ true →
        IsRuled rules c → time ≤ y.time →
        from_time c.by.start ≤ y.time + reach c.by →
        AllByRecursion (λ w. w.time ≤ y.time) (given (key_of t outlet)).left →
        length (given (key_of t outlet)).left + 1 < most_held →
        AreKept t c until None time given lines old →
        done (AreKept t c until None time (with_left (key_of t outlet) y given) lines new)

-- the stream at an outlet is kept, under its key
abbrev pub FindsStream : ((Key → Type 0) → Type 0) → KeptByKey → KeptByKey → StreamRules → Outlet
    → Type 0
FindsStream done old new rules outlet =
    let t = rules.tables.now in
    (c : Choices) (until time : ℕ) (given : Key → Given) (lines : List Due) (l : LinkRow) →
    slice_get t.links outlet.link ≡ Some l → is_to outlet.system.0 l ≡ true →
    IsRuled rules c → AreKept t c until None time given lines old →
    done (λ key. IsStreamOf t key l × IsStream (slot_at new.slots.items key)
    × AreKept t c until None time given lines new)

-- what is due first is told, and stands on the agenda no more
abbrev pub TellsFirst : ((Lines → Type 0) → Type 0) → KeptByKey → KeptByKey → AgendaEntry → Option ℕ
    → Type 0
TellsFirst done old new entry ended =
    (t : Rows) (c : Choices) (until time : ℕ) (given : Key → Given) (lines : List Due)
    (whole : List AgendaEntry) → IsLawfulSwitch t → IsKey entry.key →
    IsPermutation whole (entry ∷ old.agenda) →
    All (λ y. rank_of entry ≤ rank_of y) old.agenda →
    (ended ≡ None → entry.moment < time) →
    AreKept t c until ended time given lines (kept_with old.slots whole) →
    done (λ l. AreKept t c until ended time given
    (told_at l.key l.moment l.lines.items lines) new)

-- ---- of all streams

-- a frame that counts, of no earlier time than those before it, is the newest that they stand for;
-- `named` is the place of the link that it names
abbrev pub StandsForMore : (Type 0 → Type 0) → Streams → Streams → Option ℕ → Frame → Type 0
StandsForMore done old new named x =
    (t : Rows) (c : Choices) (until time : ℕ) (frames : List Frame) (lines : List Due) →
    named ≡ place_named old.tables.now x.arrival.bytes → counts t c x ≡ true →
    time ≤ x.arrival.time → IsBehindAll x.arrival.time frames → length frames + 1 < most_held →
    old.ended ≡ None → StreamsStand t c until frames lines time old →
    done (StreamsStand t c until (x ∷ frames) lines time new)
