-- What a stream stands for while its arrivals and frames come.
use Rattle.std.specs.Prelude.{◌≡◌, ℕ, ◌+◌, ◌-◌, ◌*◌, ◌≤◌, true, false, nat_le, List, [], ◌∷◌, ◌++◌, length, Option}
use Rattle.std.specs.List.{filter}
use Rattle.afdx_police.specs.Arrival.{Arrival}
use Rattle.afdx_conform.specs.Ahead.{until_then}
use Rattle.afdx_conform.specs.Events.{moment_at}
use Rattle.afdx_conform.specs.Findings.{Finding, Judged, Marked}
use Rattle.afdx_conform.specs.Growing.{IsAfter, IsNoSooner, due_by, undecided_by}
use Rattle.afdx_conform.specs.Histories.{AreOver, judged_by, shown, time_of, uncut}
use Rattle.afdx_conform.specs.Holding.{IsLean}
use Rattle.afdx_conform.specs.Judging.{AreFound}
use Rattle.afdx_conform.specs.Leeway.{reach}
use Rattle.afdx_conform.specs.States.{Event}
use Rattle.afdx_conform.specs.Streams.{Gone, Terms, latency}
use Rattle.afdx_conform.specs.declared.streaming.Stream.{Stream}

-- the moment of its next event
abbrev pub due_of : Stream → Option ℕ
due_of s = due_by s.growth

-- how many events it was told that aren't over
abbrev pub undecided_in : Stream → ℕ
undecided_in s = undecided_by s.growth

-- how many arrivals and frames it holds
abbrev pub held_in : Stream → ℕ
held_in s = length s.growth.arrivals.items + length s.growth.frames.items

-- before the end is known: these arrivals and frames were told, oldest first, each event that is
-- over may be so before `time`, and so far this is judged, whatever the end will be from that time
-- on; what is decided was let go of
pub record StandsFor (z : Terms) (xs : List Arrival) (ys : List Gone) (j : Judged) (time : ℕ)
    (s : Stream) : Type 0 where
  pub over : List Event
  pub before : AreOver z time over
  pub is_after : (until : ℕ) → time ≤ until → IsAfter (until_then until z) xs ys 0 over s.growth
  pub judged : (until : ℕ) → time ≤ until →
      shown (judged_by (until_then until z) xs ys over) ≡ j
  pub lean : IsLean s.growth

-- once it is known: of the frames some are cut off
pub record IsEnding (z : Terms) (xs : List Arrival) (ys : List Gone) (j : Judged) (s : Stream)
    : Type 0 where
  pub over : List Event
  pub is_after : IsAfter z xs (uncut z ys) (length ys - length (uncut z ys)) over s.growth
  pub judged : shown (judged_by z xs (uncut z ys) over) ≡ j

-- at the event of this moment these were found: no event that is due is earlier; where the stream
-- is unsure from there on, the arrival behind which it is is the event's own
pub record Finds (z : Terms) (moment : ℕ) (found : List Finding) (before after : Judged)
    (due : Option ℕ) : Type 0 where
  pub is_moment : moment_at z (time_of z moment) ≡ moment
  pub are_found : AreFound (time_of z moment) found before after
  pub later : IsNoSooner moment due
  pub sure : before.is_unsure ≡ false
  pub unsure : after.is_unsure ≡ true → (m : Marked) (more : List Marked)
      → after.arrivals ≡ more ++ m ∷ [] → m.arrival.time ≡ time_of z moment

-- ---- what it holds

-- the moment of the closing of a frame that left at this time
abbrev pub closing_moment : Terms → ℕ → ℕ
closing_moment z time = moment_at z (time + reach z.by)

-- the frames that aren't closed before this moment
abbrev pub frames_since : Terms → ℕ → List Gone → List Gone
frames_since z moment ys = filter (λ y. nat_le moment (closing_moment z y.time)) ys

-- the arrivals whose frame, if it is in time, may be one of those
abbrev pub arrivals_since : Terms → ℕ → List Arrival → List Arrival
arrivals_since z moment xs =
    filter (λ x. nat_le moment (closing_moment z (x.time + latency z + reach z.by))) xs

-- how many came and left in the last window before this moment
abbrev pub in_window : Terms → List Arrival → List Gone → ℕ → ℕ
in_window z xs ys moment = length (arrivals_since z moment xs) + length (frames_since z moment ys)

-- while no event of an earlier moment is due it holds at most twice as many
abbrev pub HoldsOneWindow : Type 0
HoldsOneWindow =
    (z : Terms) (xs : List Arrival) (ys : List Gone) (j : Judged) (time moment : ℕ) (s : Stream) →
    StandsFor z xs ys j time s →
    IsNoSooner moment (due_of s) →
    held_in s ≤ 2 * in_window z xs ys moment
