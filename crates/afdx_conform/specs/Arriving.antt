-- What an arrival, or a closing, changes of what is judged. `done` says what holds of what a call
-- made or found: else memory was refused.
use Rattle.std.specs.Prelude.{◌≡◌, ◌≤◌, ℕ, ◌+◌, ◌-◌, false, nat_le, All, List, [], drop, get_or, length, map, take, Option, Some, None}
use Rattle.std.specs.List.{list_any}
use Rattle.std.specs.Global.{Vec}
use Rattle.afdx_police.specs.Arrival.{Arrival}
use Rattle.afdx_conform.specs.Accounts.{AreNear, AreRates}
use Rattle.afdx_conform.specs.Bounds.{AreBounds, HaveToPass}
use Rattle.afdx_conform.specs.Explanations.{levels_then, link}
use Rattle.afdx_conform.specs.Findings.{Finding, Judged, aged, as_accepted, came_to, closed_to, deviates, front_rest, with_states}
use Rattle.afdx_conform.specs.Growing.{Decides, IsKnownBy, IsReady}
use Rattle.afdx_conform.specs.HeldStates.{AreClosed, state_of}
use Rattle.afdx_conform.specs.Histories.{coming, next_of, unclosed}
use Rattle.afdx_conform.specs.Judging.{AreFound, StandsFor}
use Rattle.afdx_conform.specs.KnownBytes.{AreEach, AreKnown}
use Rattle.afdx_conform.specs.Leeway.{reach}
use Rattle.afdx_conform.specs.Limits.{gone_of}
use Rattle.afdx_conform.specs.Marks.{IsCharged, IsJudged, arrival_of}
use Rattle.afdx_conform.specs.Naming.{unexplained_all, with_last}
use Rattle.afdx_conform.specs.States.{Event, Came, State, led_by, states_at}
use Rattle.afdx_conform.specs.Streams.{Gone, Terms, is_open}
use Rattle.afdx_conform.specs.declared.arrived.Arrived.{Arrived}
use Rattle.afdx_conform.specs.declared.bounds.Bounds.{Bounds}
use Rattle.afdx_conform.specs.declared.coming.Coming.{Coming}
use Rattle.afdx_conform.specs.declared.deviate.Outcome.{Outcome}
use Rattle.afdx_conform.specs.declared.deviate.Span.{Span}
use Rattle.afdx_conform.specs.declared.growth.Growth.{Growth}
use Rattle.afdx_conform.specs.declared.judging.Judging.{Judging}
use Rattle.afdx_conform.specs.declared.known_bytes.Lookup.{Lookup}
use Rattle.afdx_conform.specs.declared.levels.Rates.{Rates}
use Rattle.afdx_conform.specs.declared.limits.LeftFrame.{LeftFrame}
use Rattle.afdx_conform.specs.declared.recorded.StreamRecord.{StreamRecord}
use Rattle.afdx_conform.specs.declared.states.StreamState.{StreamState}

-- ---- what a call is given

-- the arrival comes so long after the one at `last`, and is open if that is said of it
pub record ComesAt (z : Terms) (last : ℕ) (c : Coming) : Type 0 where
  pub ns : c.ns ≡ c.arrived.now.time - last
  pub opens : c.is_open ≡ is_open z (arrival_of c.arrived.now)

-- it knows where those of these arrivals stand that a frame may be of, or each place may be looked
-- at
pub record MayLookUp (lookup : Lookup) (arrivals : List Arrived) : Type 0 where
  pub known : AreKnown lookup.known.now arrivals
  pub each : AreEach lookup.known.now arrivals lookup.each.now

-- the frames stand one behind another
pub record IsSpanOf (span : Span) (frames : List LeftFrame) : Type 0 where
  pub order : span.first ≤ span.past
  pub within : span.past ≤ length frames

-- the arrivals and frames of a stream, as they stand in its explanations
abbrev pub arrivals_from : ℕ → StreamRecord → List Arrival
arrivals_from place recorded = map arrival_of (drop place recorded.arrivals.now)

abbrev pub all_gone : StreamRecord → List Gone
all_gone recorded = map gone_of recorded.frames.now

abbrev pub gone_in : Span → StreamRecord → List Gone
gone_in span recorded = map gone_of (take (span.past - span.first)
    (drop span.first recorded.frames.now))

-- and so its states
abbrev pub states_in : StreamRecord → List StreamState → List State
states_in recorded held = map (state_of (all_gone recorded)) held

-- ---- what it makes of the states

-- all states to which an arrival leads from these; the one before came at `last`
abbrev pub all_led : Terms → (last : ℕ) → Arrival → List State → List State
all_led z last x states = led_by (λ s. states_at z x (levels_then z s.levels last x) s) states

-- the states where an arrival was accepted that has to pass in each of these
abbrev pub AreAccepted : ((List StreamState → Type 0) → Type 0) → Rates → Arrived → ℕ
    → List StreamState → Type 0
AreAccepted done rates a ns held =
    (z : Terms) (ys : List Gone) (last : ℕ) → AreRates (link z) z.by rates → IsCharged z a →
    ns ≡ a.time - last → All (λ h. AreNear rates h.levels) held →
    HaveToPass z last (arrival_of a) held → done (λ out. map (state_of ys) out
    ≡ as_accepted z (arrival_of a) (aged z last (arrival_of a) (map (state_of ys) held)))

-- what is found where an arrival leads to no state, and how the states go on, are what the rules
-- say. The arrivals from `from` on came after it.
abbrev pub Deviates : ((Outcome → Type 0) → Type 0) → Bounds → StreamRecord → (from : ℕ) → Coming →
    List StreamState → Type 0
Deviates done bounds recorded from c held =
    (z : Terms) (last : ℕ) (j : Judged) → AreBounds z bounds → IsCharged z c.arrived.now →
    ComesAt z last c → all_led z last (arrival_of c.arrived.now) (states_in recorded held) ≡ [] →
    done (λ out. with_states (states_in recorded out.held.items)
    (with_last c.arrived.now.time out.last
    (unexplained_all z c.arrived.now.time (gone_in out.passed recorded) j))
    ≡ deviates z (arrivals_from from recorded) (arrival_of c.arrived.now)
    (aged z last (arrival_of c.arrived.now) (states_in recorded held))
    (front_rest (states_in recorded held)) j)

-- ---- what it makes of what is judged

module _ (done : (Vec Finding → Type 0) → Type 0) (bounds : Bounds) (recorded : StreamRecord)
    (old new : Judging) where
  -- once it was `j`, it is `after`, and what is found is new there
  abbrev pub GoesOn : (time : ℕ) → (j after : Judged) → Type 0
  GoesOn time j after = done (λ found.
      StandsFor bounds.rates recorded.frames.now recorded.arrivals.now after new
      × AreFound time found.items j after)

  -- what is judged once the arrival came, the first without a mark
  abbrev pub came_next : Terms → (last : ℕ) → Arrived → Judged → Judged
  came_next z last a j =
      came_to z (arrivals_from (length old.marks.items + 1) recorded) last (arrival_of a) j

  -- what is judged of the arrival is what the rules say: it is the first without a mark
  abbrev pub JudgesArrival : Coming → Type 0
  JudgesArrival c =
      (z : Terms) (last : ℕ) (j : Judged) → AreBounds z bounds → IsJudged z c.arrived.now →
      c.arrived.now ≡ get_or recorded.arrivals.now (length old.marks.items) c.arrived.now →
      ComesAt z last c → j.is_unsure ≡ false →
      StandsFor bounds.rates recorded.frames.now recorded.arrivals.now j old →
      GoesOn c.arrived.now.time j (came_next z last c.arrived.now j)

  -- so is it of an arrival of the right shape that leads to no state
  abbrev pub JudgesDeviation : Coming → Type 0
  JudgesDeviation c =
      (z : Terms) (last : ℕ) (j : Judged) → AreBounds z bounds → IsJudged z c.arrived.now →
      c.arrived.now ≡ get_or recorded.arrivals.now (length old.marks.items) c.arrived.now →
      ComesAt z last c → c.arrived.now.fault ≡ None → j.is_unsure ≡ false →
      all_led z last (arrival_of c.arrived.now) (states_in recorded old.held.items) ≡ [] →
      StandsFor bounds.rates recorded.frames.now recorded.arrivals.now j old →
      GoesOn c.arrived.now.time j (came_next z last c.arrived.now j)

  -- and of the closing of the first `closed` frames
  abbrev pub JudgesClosing : (closed : ℕ) → Type 0
  JudgesClosing closed =
      (z : Terms) (time : ℕ) (j : Judged) → AreBounds z bounds →
      AreClosed time closed (all_gone recorded) → j.is_unsure ≡ false →
      StandsFor bounds.rates recorded.frames.now recorded.arrivals.now j old →
      GoesOn (time + reach z.by) j (closed_to z time j)

  -- also where no state explains them all
  abbrev pub JudgesSkipped : (closed : ℕ) → Type 0
  JudgesSkipped closed =
      (z : Terms) (time : ℕ) (j : Judged) → AreBounds z bounds →
      AreClosed time closed (all_gone recorded) →
      list_any (λ h. nat_le closed h.passed) old.held.items ≡ false → j.is_unsure ≡ false →
      StandsFor bounds.rates recorded.frames.now recorded.arrivals.now j old →
      GoesOn (time + reach z.by) j (closed_to z time j)

-- the next event of a stream, that of the first arrival without a mark, is over; and behind it a
-- closing may be
abbrev pub DecidesArrival : Growth → Growth → (end : Option ℕ) → List Finding → Type 0
DecidesArrival old new end found = (closed : Option ℕ) × ((z : Terms)
    (xs : List Arrival) (ys : List Gone) (cut : ℕ) (over : List Event) (a : Arrived) →
    old.judging.is_unsure ≡ false →
    a ≡ get_or old.arrivals.items (length old.judging.marks.items) a →
    next_of z (coming xs over) (unclosed ys over) ≡ Some (Came (arrival_of a)) →
    IsKnownBy z end (Came (arrival_of a)) → IsReady z xs ys cut over old →
    Decides z xs ys cut over new (Came (arrival_of a)) closed found)
