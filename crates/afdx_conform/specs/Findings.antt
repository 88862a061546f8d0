-- What is found in a stream: where no state is left, what the switch did there, and how its states
-- go on. Lists of events and of findings have the newest first; lists of marks, and what comes
-- behind an event, the oldest.
use Rattle.std.specs.Prelude.{ℕ, ◌+◌, ◌-◌, Bool, true, false, not, ◌&&◌, nat_eq, nat_le, nat_lt, is_none, Option, Some, None, List, [], ◌∷◌, ◌++◌, length, map, if◌then◌else◌}
use Rattle.std.specs.List.{list_any, filter}
use Rattle.std.specs.Str.{bytes_eq}
use Rattle.afdx_frame.specs.Lengths.{least_frame, greatest_frame}
use Rattle.afdx_frame.specs.Sealing.{is_sealed}
use Rattle.afdx_police.specs.Arrival.{Arrival}
use Rattle.afdx_police.specs.Shape.{fault_of, first_of}
use Rattle.afdx_police.specs.declared.shape.Reason.{Reason}
use Rattle.afdx_police.specs.declared.shape.Reason.TheVariants.{TooShort, TooLong, BadFcs, OverRate}
pub use Rattle.afdx_conform.specs.declared.finding.Finding.{Finding}
use Rattle.afdx_conform.specs.declared.finding.Finding.TheVariants.{Strange, Passed, Stopped, Late, Early}
pub use Rattle.afdx_conform.specs.declared.strangeness.Strangeness.{Strangeness}
use Rattle.afdx_conform.specs.declared.strangeness.Strangeness.TheVariants.{Shape, OutOfTurn, NoArrival}
use Rattle.afdx_conform.specs.declared.finding.Deviation.{Deviation}
use Rattle.afdx_conform.specs.declared.finding.Deviation.TheVariants as deviation
use Rattle.afdx_conform.specs.Explanations.{link, charge, last_time, levels_then}
use Rattle.afdx_conform.specs.Leeway.{reach}
use Rattle.afdx_conform.specs.Levels.{first_levels, charged, may_pass, has_to_pass}
use Rattle.afdx_conform.specs.States.{Event, Came, Closing, State, state_with, arrivals_came, led_by, kept, are_behind, first_states, states_at}
use Rattle.afdx_conform.specs.Streams.{Gone, Terms, fits, is_no_sooner, latency, wire_time}

-- found, at this event's time
pub record Found : Type 0 where
  pub time : ℕ
  pub finding : Finding

abbrev pub found_at : ℕ → Finding → Found
found_at time finding = record { time = time; finding = finding }

-- how many frames are in findings: one is in each but that of an arrival that was stopped
abbrev pub frames_of : Finding → ℕ
frames_of (Strange m strangeness) = 1
frames_of (Passed n reason) = 1
frames_of (Stopped n) = 0
frames_of (Late n by) = 1
frames_of (Early n by) = 1

unfoldable pub frames_in : List Finding → ℕ
frames_in [] = 0
frames_in (finding ∷ more) = frames_of finding + frames_in more

-- an arrival whose event is over, why the rule refuses it, if it does so after each state, and
-- whether a finding named it
pub record Marked : Type 0 where
  pub arrival : Arrival
  pub mark : Option Reason
  pub is_named : Bool

abbrev pub marked : Arrival → Option Reason → Bool → Marked
marked x mark is_named = record { arrival = x; mark = mark; is_named = is_named }

-- how far a stream is judged: its states, the arrivals so far, what was found, the number of frames
-- that are in a finding, of arrivals of which both answers were right; and whether there were more
-- states than are kept, from where on nothing is judged
pub record Judged : Type 0 where
  pub states : List State
  pub arrivals : List Marked
  pub findings : List Found
  pub frames : ℕ
  pub uncertain : ℕ
  pub is_unsure : Bool

-- in this order
abbrev pub judged_with : List State → List Marked → List Found → ℕ → ℕ → Bool → Judged
judged_with states arrivals findings frames uncertain is_unsure = record {
  states = states;
  arrivals = arrivals;
  findings = findings;
  frames = frames;
  uncertain = uncertain;
  is_unsure = is_unsure;
}

-- with these states, in its place
abbrev pub with_states : List State → Judged → Judged
with_states states j =
    judged_with states j.arrivals j.findings j.frames j.uncertain j.is_unsure

-- one more finding, of so many frames
abbrev pub with_finding : ℕ → Finding → ℕ → Judged → Judged
with_finding time finding frames j =
    judged_with j.states j.arrivals (found_at time finding ∷ j.findings) (j.frames + frames)
    j.uncertain j.is_unsure

-- one more arrival
abbrev pub with_mark : Arrival → Option Reason → Judged → Judged
with_mark x mark j =
    judged_with j.states (j.arrivals ++ (marked x mark false ∷ [])) j.findings j.frames
    j.uncertain j.is_unsure

-- the most states that are kept
abbrev pub most_states : ℕ
most_states = 1024

-- ---- the states of a stream that are left in a set

-- the same frames
unfoldable pub are_same : List Gone → List Gone → Bool
are_same [] [] = true
are_same [] (y ∷ ys) = false
are_same (x ∷ xs) [] = false
are_same (x ∷ xs) (y ∷ ys) =
    nat_eq x.number y.number && nat_eq x.time y.time && bytes_eq x.bytes y.bytes && are_same xs ys

-- a state allows all that another does, with no more arrivals that wait
unfoldable pub does_more : State → State → Bool
does_more a b = are_same a.rest b.rest && nat_le a.levels.lo b.levels.lo
    && nat_le b.levels.hi a.levels.hi && nat_le a.waiting b.waiting

-- one more is kept where none outdoes it, in place of those that it outdoes
unfoldable pub one_more : State → List State → List State
one_more s states = if list_any (λ x. does_more x s) states then states
    else filter (λ x. not (does_more s x)) states ++ (s ∷ [])

-- those that no other outdoes, one of equal ones, behind those that are kept
unfoldable pub thinned_onto : List State → List State → List State
thinned_onto few [] = few
thinned_onto few (s ∷ more) = thinned_onto (one_more s few) more

-- there is one
abbrev pub has_some : List State → Bool
has_some [] = false
has_some (s ∷ more) = true

-- the frames that are left where the most are explained
unfoldable pub front_rest : List State → List Gone
front_rest [] = []
front_rest (s ∷ []) = s.rest
front_rest (s ∷ t ∷ more) =
    if nat_lt (length s.rest) (length (front_rest (t ∷ more))) then s.rest
    else front_rest (t ∷ more)

-- the states in which the most are
abbrev pub lead : List State → List State
lead states = kept (λ s. nat_eq (length s.rest) (length (front_rest states))) states

-- the same with other frames left
abbrev pub with_rest : List Gone → List State → List State
with_rest rest states = map (λ s. state_with rest s.levels s.waiting) states

-- ---- a frame that no arrival explains

abbrev pub passed_or : Option Reason → ℕ → Option Finding → Option Finding
passed_or None n others = others
passed_or (Some reason) n others = Some (Passed n reason)

abbrev pub named_or : Option Reason → Marked → List Marked → List Marked → List Marked
named_or None m more others = m ∷ others
named_or (Some reason) m more others = marked m.arrival m.mark true ∷ more

abbrev pub damaged_or : Option Reason → Strangeness → Strangeness
damaged_or None others = others
damaged_or (Some reason) others = Shape reason

-- the first that is true of the frame
abbrev pub damage : List ℕ → Option Reason
damage bytes = first_of ((nat_lt (length bytes) least_frame, TooShort)
    ∷ (nat_lt greatest_frame (length bytes), TooLong)
    ∷ (not (is_sealed bytes), BadFcs) ∷ [])

abbrev pub finding_or : Option Finding → Finding → Finding
finding_or None others = others
finding_or (Some finding) others = finding

module _ (z : Terms) where
  -- the reason by which a finding may name the arrival
  abbrev pub names_it : Gone → Marked → Option Reason
  names_it y m = if fits z m.arrival y && not m.is_named then m.mark else None

  -- the first that it may name
  unfoldable pub first_named : Gone → List Marked → Option Finding
  first_named y [] = None
  first_named y (m ∷ more) = passed_or (names_it y m) m.arrival.tag (first_named y more)

  -- the arrivals where it is named
  unfoldable pub once_named : Gone → List Marked → List Marked
  once_named y [] = []
  once_named y (m ∷ more) = named_or (names_it y m) m more (once_named y more)

  -- the frame fits the arrival, which isn't refused
  abbrev pub is_of_right : Gone → Marked → Bool
  is_of_right y m = fits z m.arrival y && is_none m.mark

  unfoldable pub strangeness : List Marked → Gone → Strangeness
  strangeness arrivals y = damaged_or (damage y.bytes)
      (if list_any (λ m. is_of_right y m) arrivals then OutOfTurn else NoArrival)

  -- the finding, at an event of this time
  unfoldable pub unexplained : ℕ → Gone → Judged → Judged
  unexplained time y j = judged_with j.states (once_named y j.arrivals)
      (found_at time
      (finding_or (first_named y j.arrivals) (Strange y.number (strangeness j.arrivals y)))
      ∷ j.findings)
      (j.frames + 1) j.uncertain j.is_unsure

  -- ---- a closing

  -- the frames of the front are unexplained, up to the last that is closed
  unfoldable pub skipped : ℕ → List State → List Gone → Judged → Judged
  skipped time front [] j = with_states (with_rest [] front) j
  skipped time front (y ∷ rest) j =
      if are_behind time rest
      then with_states (with_rest rest front) (unexplained (time + reach z.by) y j)
      else skipped time front rest (unexplained (time + reach z.by) y j)

  abbrev pub closed_by : ℕ → List State → Judged → Judged
  closed_by time [] j = skipped time (lead j.states) (front_rest j.states) j
  closed_by time (s ∷ more) j = with_states (s ∷ more) j

  unfoldable pub closed_to : ℕ → Judged → Judged
  closed_to time j = if j.is_unsure then j
      else closed_by time (kept (λ s. are_behind time s.rest) j.states) j

  -- ---- an arrival of the right shape

  -- the states when it comes
  abbrev pub aged : ℕ → Arrival → List State → List State
  aged last x states =
      map (λ s. state_with s.rest (levels_then z s.levels last x) s.waiting) states

  -- as if it was accepted
  abbrev pub as_accepted : Arrival → List State → List State
  as_accepted x states =
      map (λ s. state_with s.rest (charged (link z) z.by (charge z x) s.levels) s.waiting) states

  abbrev pub stopped : Arrival → List State → Judged → Judged
  stopped x states j = with_states (as_accepted x states) (with_finding x.time (Stopped x.tag) 0 j)

  -- the frame is its own, too early or too late
  abbrev pub took : Arrival → Finding → List State → List Gone → Judged → Judged
  took x finding states rest j =
      with_states (with_rest rest (as_accepted x (lead states))) (with_finding x.time finding 1 j)

  abbrev pub is_early : Arrival → Gone → Bool
  is_early x y = bytes_eq x.bytes y.bytes && nat_le x.time (y.time + reach z.by)
      && not (is_no_sooner z x y)

  abbrev pub is_late : Arrival → Gone → Bool
  is_late x y = nat_lt (x.time + latency z + reach z.by) y.time

  abbrev pub is_far : Arrival → Gone → Bool
  is_far x y = nat_lt (x.time + latency z + latency z + reach z.by) y.time

  -- what the switch did with the arrival, by the next frame; `behind` came after it
  abbrev pub deviation_of : List Arrival → Arrival → Gone → Deviation
  deviation_of behind x y =
      if is_far x y then deviation.Stopped
      else if is_early x y
      then deviation.Took (Early x.tag (x.time + wire_time z x.bytes - y.time))
      else if list_any (λ w. fits z w y) behind then deviation.Stopped
      else if bytes_eq x.bytes y.bytes && is_late x y
      then deviation.Took (Late x.tag (y.time - x.time - latency z))
      else if is_late x y then deviation.Stopped
      else deviation.Other

  -- where the arrival leads to, once the next frame is unexplained
  abbrev pub asked : Arrival → List Gone → List State → List State
  asked x rest states = led_by (λ s. states_at z x s.levels s) (with_rest rest (lead states))

  abbrev pub deviates_by : Deviation → Arrival → List State → Gone → List Gone → Judged → Judged
      → Judged
  deviates_by deviation.Stopped x states y rest j again = stopped x states j
  deviates_by (deviation.Took finding) x states y rest j again = took x finding states rest j
  deviates_by deviation.Other x states y rest j again =
      if has_some (asked x rest states)
      then with_states (asked x rest states) (unexplained x.time y j)
      else again

  -- no state is left: what the switch did. `states` are those when the arrival comes, and `rest`
  -- the frames that are left in the front.
  unfoldable pub deviates : List Arrival → Arrival → List State → List Gone → Judged → Judged
  deviates behind x states [] j = stopped x states j
  deviates behind x states (y ∷ rest) j =
      deviates_by (deviation_of behind x y) x states y rest j
      (deviates behind x (with_rest rest (lead states)) rest (unexplained x.time y j))

  abbrev pub answered_by : List Arrival → ℕ → Arrival → List State → Judged → Judged
  answered_by behind last x [] j =
      deviates behind x (aged last x j.states) (front_rest j.states) j
  answered_by behind last x (s ∷ more) j = with_states (s ∷ more) j

  -- after no state before it it may pass
  abbrev pub rate_mark : ℕ → Arrival → List State → Option Reason
  rate_mark last x states =
      if list_any (λ s. may_pass (link z) z.by (charge z x) (levels_then z s.levels last x)) states
      then None else Some OverRate

  -- after one it may pass, and doesn't have to
  abbrev pub is_uncertain : ℕ → Arrival → List State → Bool
  is_uncertain last x states = list_any (λ s.
      may_pass (link z) z.by (charge z x) (levels_then z s.levels last x)
      && not (has_to_pass (link z) z.by (charge z x) (levels_then z s.levels last x))) states

  abbrev pub one_if : Bool → ℕ
  one_if false = 0
  one_if true = 1

  -- of the states those are kept that no other outdoes, if they aren't too many
  abbrev pub few_of : ℕ → Judged → Judged
  few_of uncertain j = judged_with (thinned_onto [] j.states) j.arrivals j.findings j.frames
      (j.uncertain + uncertain) (nat_lt most_states (length (thinned_onto [] j.states)))

  abbrev pub sound_came : List Arrival → ℕ → Arrival → Judged → Judged
  sound_came behind last x j = with_mark x (rate_mark last x j.states)
      (few_of (one_if (is_uncertain last x j.states))
      (answered_by behind last x
      (led_by (λ s. states_at z x (levels_then z s.levels last x) s) j.states) j))

  abbrev pub came_by : List Arrival → ℕ → Arrival → Option Reason → Judged → Judged
  came_by behind last x None j = sound_came behind last x j
  came_by behind last x (Some fault) j = with_mark x (Some fault) j

  unfoldable pub came_to : List Arrival → ℕ → Arrival → Judged → Judged
  came_to behind last x j = if j.is_unsure then j
      else came_by behind last x (fault_of (Some z.rule) x.port x.bytes) j

  -- ---- all events

  -- without the arrivals of a wrong shape
  unfoldable pub sound_events : List Event → List Event
  sound_events [] = []
  sound_events (Came x ∷ before) =
      if is_none (fault_of (Some z.rule) x.port x.bytes) then Came x ∷ sound_events before
      else sound_events before
  sound_events (Closing time ∷ before) = Closing time ∷ sound_events before

  -- how far a stream is judged after these events, behind which these arrivals came
  unfoldable pub judged_after : List Gone → List Arrival → List Event → Judged
  judged_after ys behind [] =
      judged_with (first_states z (first_levels (link z) z.by z.by.start) ys) [] [] 0 0 false
  judged_after ys behind (Came x ∷ before) =
      came_to behind (last_time z.by (arrivals_came (sound_events before))) x
      (judged_after ys (x ∷ behind) before)
  judged_after ys behind (Closing time ∷ before) = closed_to time (judged_after ys behind before)
