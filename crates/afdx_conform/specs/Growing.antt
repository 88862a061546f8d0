-- What the code keeps of a stream while its arrivals and frames come.
use Rattle.std.specs.Prelude.{◌≡◌, ℕ, ◌+◌, ◌-◌, ◌<◌, ◌≤◌, ◌⊎◌, Bool, true, false, min, nat_lt, List, [], ◌∷◌, ◌++◌, drop, length, map, All, Option, Some, None, if◌then◌else◌}
use Rattle.std.specs.List.{AllByRecursion}
use Rattle.afdx_police.specs.Arrival.{Arrival}
use Rattle.afdx_police.specs.Rule.{regulation_of}
use Rattle.afdx_police.specs.RuleOf.{rule_of}
use Rattle.afdx_conform.specs.Accounts.{AreRates}
use Rattle.afdx_conform.specs.Ahead.{NoneIsOpen}
use Rattle.afdx_conform.specs.Bounds.{AreBounds}
use Rattle.afdx_conform.specs.Events.{GoUp, arrival_times, closings_in, event_time, frame_times, moment_at}
use Rattle.afdx_conform.specs.Explanations.{from_time, last_time}
use Rattle.afdx_conform.specs.Findings.{Finding, Judged, Marked, sound_events}
use Rattle.afdx_conform.specs.Forgetting.{FitNone, with_gone}
use Rattle.afdx_conform.specs.HeldStates.{IsWithin}
use Rattle.afdx_conform.specs.Histories.{AreEvents, judged_by, unsure_in}
use Rattle.afdx_conform.specs.Holding.{IsLean}
use Rattle.afdx_conform.specs.Judging as judging
use Rattle.afdx_conform.specs.KnownBytes.{AreKnown}
use Rattle.afdx_conform.specs.Leeway.{reach}
use Rattle.afdx_conform.specs.LeewayOf.{leeway_of}
use Rattle.afdx_conform.specs.Limits.{gone_of}
use Rattle.afdx_conform.specs.Marks.{IsJudged, arrival_of}
use Rattle.afdx_conform.specs.Naming.{AreSettled}
use Rattle.afdx_conform.specs.Ranges.{most_held}
use Rattle.afdx_conform.specs.States.{Event, Closing, arrivals_came}
use Rattle.afdx_conform.specs.Streams.{Gone, Terms}
use Rattle.afdx_conform.specs.declared.arrived.Arrived.{Arrived}
use Rattle.afdx_conform.specs.declared.growth.Growth.{Growth}
use Rattle.afdx_conform.specs.declared.limits.LeftFrame.{LeftFrame}
use Rattle.afdx_conform.specs.declared.limits.Limits.{Limits}

-- the most frames that are counted in findings
abbrev pub most_found : ℕ
most_found = 0xffffffffffffffff

-- its numbers are within bounds
pub record IsSound (s : Growth) : Type 0 where
  pub rates : AreRates (regulation_of (rule_of s.rule)) (leeway_of s.by) s.bounds.rates
  pub within : All (λ h. IsWithin s.bounds.rates (length s.frames.items)
      (length s.judging.marks.items) h) s.judging.held.items
  pub closed : s.closed ≤ length s.frames.items
  pub places : length s.judging.marks.items ≤ length s.arrivals.items
  pub uncertain : s.judging.uncertain + length s.arrivals.items
      ≤ s.came + length s.judging.marks.items
  pub arrivals : length s.arrivals.items ≤ s.came
  pub came : s.came < most_held
  pub frames : length s.frames.items ≤ s.left
  pub left : s.left + s.cut < most_held
  pub known : AreKnown s.known s.arrivals.items
  pub settled : AreSettled s.known.gaps.items s.arrivals.items s.judging.marks.items

-- nothing has changed; the states are known from the first event on
pub record IsSame (before after : Growth) : Type 0 where
  pub bounds : after.bounds ≡ before.bounds
  pub by : after.by ≡ before.by
  pub arrivals : after.arrivals.items ≡ before.arrivals.items
  pub frames : after.frames.items ≡ before.frames.items
  pub held : before.is_started ≡ true → after.judging.held.items ≡ before.judging.held.items
  pub marks : after.judging.marks.items ≡ before.judging.marks.items
  pub uncertain : after.judging.uncertain ≡ before.judging.uncertain
  pub is_unsure : after.judging.is_unsure ≡ before.judging.is_unsure
  pub closed : after.closed ≡ before.closed
  pub last : after.last ≡ before.last
  pub started : after.is_started ≡ before.is_started
  pub came : after.came ≡ before.came
  pub left : after.left ≡ before.left
  pub cut : after.cut ≡ before.cut
  pub found : after.found ≡ before.found
  pub unsure : after.unsure ≡ before.unsure

-- ---- the next event, by what is held

-- the moment of an event of this time
abbrev pub due_at : Limits → ℕ → ℕ
due_at limits time = time + limits.latency + limits.latency + limits.reach + limits.reach

abbrev pub due_in : Limits → List Arrived → List LeftFrame → Option ℕ
due_in limits [] [] = None
due_in limits [] (f ∷ frames) = Some (due_at limits (f.time + limits.reach))
due_in limits (a ∷ arrivals) [] = Some (due_at limits a.time)
due_in limits (a ∷ arrivals) (f ∷ frames) =
    if nat_lt (f.time + limits.reach) a.time then Some (due_at limits (f.time + limits.reach))
    else Some (due_at limits a.time)

unfoldable pub due_by : Growth → Option ℕ
due_by s = if s.judging.is_unsure then None
    else due_in s.bounds.limits (drop (length s.judging.marks.items) s.arrivals.items)
    (drop s.closed s.frames.items)

-- how many events are told and aren't over
unfoldable pub undecided_by : Growth → ℕ
undecided_by s = if s.judging.is_unsure then 0
    else (length s.arrivals.items - length s.judging.marks.items)
    + (length s.frames.items - s.closed)

-- ---- what it stands for

-- what was told goes by time, and nothing of it lies before the start
pub record AreTold (z : Terms) (xs : List Arrival) (ys : List Gone) : Type 0 where
  pub came : GoUp (arrival_times xs)
  pub left : GoUp (frame_times ys)
  pub start : AllByRecursion (λ x. from_time z.by.start ≤ x.time) xs
  pub begun : AllByRecursion (λ y. from_time z.by.start ≤ y.time + reach z.by) ys

-- an event is over
abbrev pub is_some : List Event → Bool
is_some [] = false
is_some (e ∷ before) = true

-- it holds the arrivals but those that are forgotten, and the frames but those that are closed and
-- explained in each state: no frame that it holds fits a forgotten arrival
pub record IsKept (z : Terms) (xs : List Arrival) (ys : List Gone) (cut : ℕ) (over : List Event)
    (gone : List Marked) (past : List Gone) (s : Growth) : Type 0 where
  pub came : xs ≡ map (λ m. m.arrival) gone ++ map arrival_of s.arrivals.items
  pub left : ys ≡ past ++ map gone_of s.frames.items
  pub judged : All (λ a. IsJudged z a) s.arrivals.items
  pub marks : length (arrivals_came over) ≡ length gone + length s.judging.marks.items
  pub closed : length (closings_in over) ≡ length past + s.closed
  pub unread : FitNone z (map gone_of s.frames.items) gone
  pub last : s.last ≡ last_time z.by (arrivals_came (sound_events z over))
  pub found : s.found ≡ min (judged_by z xs ys over).frames most_found
  pub arrivals : s.came ≡ length xs
  pub frames : s.left ≡ length ys
  pub cut_off : s.cut ≡ cut
  -- before the first event its states aren't known
  pub started : s.is_started ≡ is_some over
  pub certain : over ≡ [] → s.judging.uncertain ≡ 0

-- its states are those, but for the arrivals that are forgotten
pub record Continues (z : Terms) (xs : List Arrival) (ys : List Gone) (over : List Event)
    (gone : List Marked) (s : Growth) : Type 0 where
  pub j : Judged
  pub same : with_gone gone 0 j ≡ judged_by z xs ys over
  pub stands : judging.StandsFor s.bounds.rates s.frames.items s.arrivals.items j s.judging

pub record IsHeld (z : Terms) (xs : List Arrival) (ys : List Gone) (cut : ℕ) (over : List Event)
    (s : Growth) : Type 0 where
  pub gone : List Marked
  pub past : List Gone
  pub kept : IsKept z xs ys cut over gone past s
  pub continues : s.is_started ≡ true → Continues z xs ys over gone s

-- its arrivals and frames are these, oldest first, without those that are cut off, and these of
-- their events are over
pub record IsAfter (z : Terms) (xs : List Arrival) (ys : List Gone) (cut : ℕ)
    (over : List Event) (s : Growth) : Type 0 where
  pub bounds : AreBounds z s.bounds
  pub by : z.by ≡ leeway_of s.by
  pub told : AreTold z xs ys
  pub events : AreEvents z xs ys over
  pub unsure : s.judging.is_unsure ≡ (judged_by z xs ys over).is_unsure
  pub tag : s.unsure ≡ unsure_in (judged_by z xs ys over)
  pub sure : s.judging.is_unsure ≡ false → IsHeld z xs ys cut over s

-- and its states are known
pub record IsReady (z : Terms) (xs : List Arrival) (ys : List Gone) (cut : ℕ)
    (over : List Event) (s : Growth) : Type 0 where
  pub after : IsAfter z xs ys cut over s
  pub gone : List Marked
  pub past : List Gone
  pub kept : IsKept z xs ys cut over gone past s
  pub continues : Continues z xs ys over gone s

-- ---- what is decided

-- whether the arrival is open is known: it isn't before the end is, or this is the end
abbrev pub IsKnownBy : Terms → Option ℕ → Event → Type 0
IsKnownBy z None e = moment_at z (event_time z e) ≤ z.until
IsKnownBy z (Some until) e = z.until ≡ until

-- behind these events the closing of a frame of this time, if there is one
abbrev pub closed_too : Option ℕ → List Event → List Event
closed_too None over = over
closed_too (Some time) over = Closing time ∷ over

-- which isn't later than this moment
abbrev pub IsEarly : Terms → (moment : ℕ) → Option ℕ → Type 0
IsEarly z moment None = Unit {0}
IsEarly z moment (Some time) = event_time z (Closing time) ≤ moment

-- and at which nothing is found
pub record IsQuiet (z : Terms) (xs : List Arrival) (ys : List Gone) (over : List Event) (moment : ℕ)
    (closed : Option ℕ) : Type 0 where
  pub early : IsEarly z moment closed
  pub same : judged_by z xs ys (closed_too closed over) ≡ judged_by z xs ys over

-- the next event of a stream is over: these are found there; and behind it this closing; what is
-- decided is let go of, while no arrival is open
abbrev pub Decides : Terms → List Arrival → List Gone → ℕ → List Event → Growth → Event
    → Option ℕ → List Finding → Type 0
Decides z xs ys cut over s e closed found = IsAfter z xs ys cut (closed_too closed (e ∷ over)) s
    × judging.AreFound (event_time z e) found (judged_by z xs ys over)
    (judged_by z xs ys (e ∷ over))
    × IsQuiet z xs ys (e ∷ over) (moment_at z (event_time z e)) closed
    × (NoneIsOpen z (closed_too closed (e ∷ over)) → IsLean s)

-- ---- what may come

-- an arrival no earlier than those before it, which aren't too many, than the start and than this
-- time
pub record MayCome (z : Terms) (xs : List Arrival) (time : ℕ) (x : Arrival) : Type 0 where
  pub behind : time ≤ x.time
  pub by_time : AllByRecursion (λ w. w.time ≤ x.time) xs
  pub start : from_time z.by.start ≤ x.time
  pub few : length xs + 1 < most_held

-- a frame no earlier than those before it, which aren't too many, than the start, but for the reach
-- of stamps, and than this time
pub record MayLeave (z : Terms) (ys : List Gone) (time : ℕ) (y : Gone) : Type 0 where
  pub behind : time ≤ y.time
  pub by_time : AllByRecursion (λ w. w.time ≤ y.time) ys
  pub start : from_time z.by.start ≤ y.time + reach z.by
  pub few : length ys + 1 < most_held

-- ---- what is due

-- the next event, if there is one, has no earlier moment
abbrev pub IsNoSooner : ℕ → Option ℕ → Type 0
IsNoSooner moment None = Unit {0}
IsNoSooner moment (Some due) = moment ≤ due

-- of fewer frames the next event is none, or of no earlier moment
abbrev pub IsDueLater : Option ℕ → Option ℕ → Type 0
IsDueLater None due = due ≡ None
IsDueLater (Some moment) due = IsNoSooner moment due

-- the next event is the same, or one of no earlier moment than this time
abbrev pub IsSameOrLater : Option ℕ → ℕ → Option ℕ → Type 0
IsSameOrLater before time due = (due ≡ before) ⊎ IsNoSooner time due
