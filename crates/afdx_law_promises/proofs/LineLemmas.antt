-- The lines that tell of events.
use Rattle.std.proofs.Common.{◌≡◌, ℕ, suc, ◌≤◌, ◌<◌, ◌==◌, ◌&&◌, Bool, true, false, not, IsTrue}
use Rattle.std.proofs.Common.{List, [], ◌∷◌, ◌++◌, length, map, filter, refl, sym, ap, ◌∙◌, arith}
use Rattle.std.proofs.Common.{inl, inr}
use Rattle.std.specs.Prelude.{Option, Some, None, All, nat_lt, ◌⊎◌, if◌then◌else◌}
use Rattle.std.specs.List.{AllByRecursion}
use Rattle.std.proofs.lemmas.Bool.{le-ltb, lt-ltb}
use Rattle.afdx_frame.specs.declared.link.Side.{Side}
use Rattle.afdx_config.specs.Reading.{listener_at}
use Rattle.afdx_config.specs.Rows.{Rows}
use Rattle.afdx_police.specs.Arrival.{Arrival, is_side, names}
use Rattle.afdx_law_bounds.specs.Outputs.{AreTimed}
use Rattle.afdx_port.specs.Schedule.{Turn}
use Rattle.afdx_receive.specs.Arrivals.{Arrived}
use Rattle.afdx_switch.specs.Admitted.{passing_in, slots, frames_among}
use Rattle.afdx_switch.specs.HeldFrames.{HeldFrame}
use Rattle.afdx_switch.specs.Laws.{is_of}
use Rattle.afdx_switch.specs.Verdicts.{reason_of}
use Rattle.afdx_network.specs.Events.{Event, Came, Left, Departure, admission_after}
use Rattle.afdx_network.specs.Events.{admissions, departures, turns_at}
use Rattle.afdx_network.specs.Order.{key, is_below, IsAmong, AreInOrder, AreEvents, AreEventsSoFar, is_told_by}
use Rattle.afdx_network.proofs.EventLemmas.{turn-of, at-port-of, is-admission, is-either}
use Rattle.afdx_network.proofs.OrderLemmas.{same_events}
use Rattle.afdx_law_promises.specs.Lines.{Line, Departed, Judged, Leaving, IsIn, judged_in}
use Rattle.afdx_law_promises.specs.Lines.{arrivals_judged, left_in, is_leaving, frames_at, arrived_as}
use Rattle.afdx_law_promises.specs.Lines.{came_at, leaving, with_reception, told_by}
use Rattle.afdx_law_promises.specs.Receptions.{brought, brought_by}
use Rattle.afdx_network.proofs.OrderedLemmas.{filter-own, filter-all, filter-order}
use Rattle.afdx_law_promises.proofs.EventLemmas.{is_at, turns_in}
use Rattle.afdx_law_promises.proofs.PortLemmas.{entries_back, NoneIsOld}
use Rattle.afdx_law_promises.proofs.RuleLemmas.{verdicts_of}

-- ---- elements

module _ {X : Type 0} where
  pub in-filter : (p : X → Bool) (x : X) (xs : List X) → IsIn x (filter p xs) → IsIn x xs × (p x ≡ true)
  in-filter p x [] h = absurd h
  in-filter p x (y ∷ ys) h = by (p y) refl h (in-filter p x ys)
    where
      by : (b : Bool) → p y ≡ b → IsIn x (if b then y ∷ filter p ys else filter p ys)
          → (IsIn x (filter p ys) → IsIn x ys × (p x ≡ true)) → IsIn x (y ∷ ys) × (p x ≡ true)
      by true passes (inl same) rest = (inl same, ap p same ∙ passes)
      by true passes (inr later) rest = let r = rest later in (inr r.0, r.1)
      by false fails later rest = let r = rest later in (inr r.0, r.1)

  pub filter-in : (p : X → Bool) (x : X) (xs : List X) → IsIn x xs → p x ≡ true → IsIn x (filter p xs)
  filter-in p x [] h passes = absurd h
  filter-in p x (y ∷ ys) h passes = by (p y) refl h (λ later. filter-in p x ys later passes)
    where
      by : (b : Bool) → p y ≡ b → IsIn x (y ∷ ys) → (IsIn x ys → IsIn x (filter p ys))
          → IsIn x (if b then y ∷ filter p ys else filter p ys)
      by true own (inl same) rest = inl same
      by true own (inr later) rest = inr (rest later)
      by false fails (inl same) rest = absurd (let q : p y ≡ true = sym (ap p same) ∙ passes in cc)
      by false fails (inr later) rest = rest later

  pub in-append : (x : X) (xs ys : List X) → IsIn x ys → IsIn x (xs ++ ys)
  in-append x [] ys h = h
  in-append x (z ∷ xs) ys h = inr (in-append x xs ys h)

module _ {X Y : Type 0} where
  pub in-map : (f : X → Y) (y : Y) (xs : List X) → IsIn y (map f xs) → (x : X) × IsIn x xs × (y ≡ f x)
  in-map f y [] h = absurd h
  in-map f y (x ∷ xs) (inl same) = (x, inl refl, same)
  in-map f y (x ∷ xs) (inr later) = let r = in-map f y xs later in (r.0, inr r.1, r.2)

  pub map-in : (f : X → Y) (x : X) (xs : List X) → IsIn x xs → IsIn (f x) (map f xs)
  map-in f x [] h = absurd h
  map-in f x (y ∷ ys) (inl same) = inl (ap f same)
  map-in f x (y ∷ ys) (inr later) = inr (map-in f x ys later)

  pub map-filter : (f : X → Y) (p : Y → Bool) (xs : List X) → map f (filter (λ x. p (f x)) xs) ≡ filter p (map f xs)
  map-filter f p [] = refl
  map-filter f p (x ∷ xs) = by (p (f x)) (map-filter f p xs)
    where
      by : (b : Bool) → map f (filter (λ y. p (f y)) xs) ≡ filter p (map f xs)
          → map f (if b then x ∷ filter (λ y. p (f y)) xs else filter (λ y. p (f y)) xs)
          ≡ (if b then f x ∷ filter p (map f xs) else filter p (map f xs))
      by true rest = ap (λ zs. f x ∷ zs) rest
      by false rest = rest

-- ---- V lines

abbrev is_came : Event → Bool
is_came (Came c) = true
is_came (Left d) = false

judged_by : List Event → List Judged
judged_by [] = []
judged_by (Came c ∷ before) = record { arrival = c.arrival; reason = c.reason } ∷ judged_by before
judged_by (Left d ∷ before) = judged_by before

received-judged : (t : Rows) (past : List Arrived) (d : Leaving) (o : Option ℕ) (before : List Line)
    → judged_in (with_reception t past d o before) ≡ judged_in before
unfolding judged_in
received-judged t past d None before = refl
received-judged t past d (Some system) before = refl

told-judged : (t : Rows) (events : List Event) → judged_in (told_by t events) ≡ judged_by events
unfolding judged_in told_by judged_by
told-judged t [] = refl
told-judged t (Came c ∷ before) = ap (λ vs. record { arrival = c.arrival; reason = c.reason } ∷ vs)
    (told-judged t before)
told-judged t (Left d ∷ before) =
    received-judged t (brought_by d.port before) (leaving d) (listener_at t d.port)
    (Departed (leaving d) ∷ told_by t before) ∙ told-judged t before

only-came : (events : List Event) → judged_by events ≡ judged_by (filter is_came events)
unfolding judged_by
only-came [] = refl
only-came (Came c ∷ before) = ap (λ vs. record { arrival = c.arrival; reason = c.reason } ∷ vs) (only-came before)
only-came (Left d ∷ before) = only-came before

judged-admissions : (t : Rows) (arrivals : List Arrival) → judged_by (admissions t arrivals) ≡ verdicts_of t arrivals
unfolding judged_by admissions verdicts_of
judged-admissions t [] = refl
judged-admissions t (x ∷ past) = ap (λ vs. record { arrival = x; reason = reason_of t past x } ∷ vs)
    (judged-admissions t past)

pub verdicts-arrivals : (t : Rows) (arrivals : List Arrival) → arrivals_judged (verdicts_of t arrivals) ≡ arrivals
unfolding verdicts_of
verdicts-arrivals t [] = refl
verdicts-arrivals t (x ∷ past) = ap (λ xs. x ∷ xs) (verdicts-arrivals t past)

-- the admissions stand in their order
below-of : (m n k l : ℕ) → m ≤ n → k < l → is_below (m ∷ 1 ∷ k ∷ []) (n ∷ 1 ∷ l ∷ []) ≡ true
below-of m n k l le lt = by (nat_lt m n) refl
  where
    by : (b : Bool) → nat_lt m n ≡ b
        → (if b then true else if nat_lt n m then false else is_below (1 ∷ k ∷ []) (1 ∷ l ∷ [])) ≡ true
    by true is = refl
    by false is = let up = le-ltb n m le in let last = lt-ltb k l lt in rw (up, last) refl

all-below : (t : Rows) (past : List Arrival) (time place : ℕ) → All (λ y. y.time ≤ time) past
    → length past ≤ place → AllByRecursion (λ d. IsTrue (is_below (key d) (time ∷ 1 ∷ place ∷ [])))
    (admissions t past)
unfolding admissions
all-below t [] time place all few = tt
all-below t (x ∷ past) time place all few = (
  below-of x.time time (length past) place (all 0 x (omega arith)) (omega (arith, few)),
  all-below t past time place (λ k d lt. all (suc k) d (omega (arith, lt))) (omega (arith, few)),
)

admissions-ordered : (t : Rows) (arrivals : List Arrival) → AreTimed arrivals → AreInOrder (admissions t arrivals)
unfolding admissions
admissions-ordered t [] timed = tt
admissions-ordered t (x ∷ past) timed =
    (all-below t past x.time (length past) timed.0 (omega arith), admissions-ordered t past timed.1)

came-is : (t : Rows) (arrivals : List Arrival) (e : Event) → IsAmong e (admissions t arrivals) → is_came e ≡ true
unfolding admissions
came-is t [] e h = absurd h
came-is t (x ∷ past) e (inl same) = ap is_came same
came-is t (x ∷ past) e (inr later) = came-is t past e later

left-not-came : (t : Rows) (arrivals : List Arrival) (side : Side) (e : Event)
    → IsAmong e (departures t side arrivals) → is_came e ≡ false
left-not-came t arrivals side e h =
    let at = at-port-of t side arrivals e h in
    let r = turn-of side at.port (turns_at t side at.port arrivals) e at.among in
    ap is_came r.is

only-admissions : (t : Rows) (arrivals : List Arrival) (e : Event)
    → IsAmong e (admissions t arrivals) ⊎ ((side : Side) × IsAmong e (departures t side arrivals))
    → is_came e ≡ true → IsAmong e (admissions t arrivals)
only-admissions t arrivals e (inl own) came = own
only-admissions t arrivals e (inr left) came =
    absurd (let off = left-not-came t arrivals left.0 e left.1 in cc (off, came))

came-are : (t : Rows) (arrivals : List Arrival) (events : List Event) → AreTimed arrivals → AreInOrder events →
    ((e : Event) → IsAmong e events → IsAmong e (admissions t arrivals)
    ⊎ ((side : Side) × IsAmong e (departures t side arrivals))) →
    ((e : Event) → IsAmong e (admissions t arrivals) → IsAmong e events) → filter is_came events ≡ admissions t arrivals
came-are t arrivals events timed order own all =
    same_events (λ e. IsAmong e (admissions t arrivals)) (filter is_came events) (admissions t arrivals)
    (record {
      in_order = filter-order is_came events order;
      own = λ e h. (let r = filter-own is_came e events h in only-admissions t arrivals e (own e r.0) r.1);
      all = λ e h. filter-all is_came e events (all e h) (came-is t arrivals e h);
    })
    (record { in_order = admissions-ordered t arrivals timed; own = λ e h. h; all = λ e h. h })

-- an admission isn't after the last arrival
not-after : (t : Rows) (arrivals : List Arrival) (e : Event) → AreTimed arrivals
    → IsAmong e (admissions t arrivals) → is_told_by arrivals e ≡ true
unfolding admissions
not-after t [] e timed h = absurd h
not-after t (x ∷ past) e timed h = by e h
  where
    not-below : (m n k l : ℕ) → m ≤ n → k ≤ l → is_below (n ∷ 1 ∷ l ∷ []) (m ∷ 1 ∷ k ∷ []) ≡ false
    not-below m n k l le few = let up = le-ltb n m le in let last = le-ltb l k few in by-time (nat_lt m n) refl up last
      where
        by-time : (b : Bool) → nat_lt m n ≡ b → nat_lt n m ≡ false → nat_lt l k ≡ false
            → is_below (n ∷ 1 ∷ l ∷ []) (m ∷ 1 ∷ k ∷ []) ≡ false
        by-time true is up last = rw (up, is) refl
        by-time false is up last = rw (up, is, last) (by-place (nat_lt k l))
          where
            by-place : (c : Bool) → (if c then false else false) ≡ false
            by-place true = refl
            by-place false = refl

    earlier : (ys : List Arrival) (d : Event) → All (λ y. y.time ≤ x.time) ys
        → length ys ≤ length past → IsAmong d (admissions t ys)
        → is_below (x.time ∷ 1 ∷ length past ∷ []) (key d) ≡ false
    earlier [] d all few g = absurd g
    earlier (y ∷ ys) d all few (inl same) =
        ap (λ c. is_below (x.time ∷ 1 ∷ length past ∷ []) (key c)) same
        ∙ not-below y.time x.time (length ys) (length past) (all 0 y (omega arith)) (omega (arith, few))
    earlier (y ∷ ys) d all few (inr rest) =
        earlier ys d (λ k z lt. all (suc k) z (omega (arith, lt))) (omega (arith, few)) rest

    by : (d : Event) → IsAmong d (Came (admission_after t past x) ∷ admissions t past) → is_told_by (x ∷ past) d ≡ true
    by d (inl same) = ap (λ c. is_told_by (x ∷ past) c) same
        ∙ ap not (not-below x.time x.time (length past) (length past) (omega arith) (omega arith))
    by d (inr rest) = ap not (earlier past d timed.0 (omega arith) rest)

pub verdicts-told : (t : Rows) (arrivals : List Arrival) (events : List Event) → AreTimed arrivals
    → AreEvents t arrivals events → judged_in (told_by t events) ≡ verdicts_of t arrivals
verdicts-told t arrivals events timed are =
    told-judged t events ∙ only-came events
    ∙ ap judged_by (came-are t arrivals events timed are.in_order
    (λ e h. is-either t arrivals e (are.own e h)) (λ e h. are.all e (is-admission t arrivals e h)))
    ∙ judged-admissions t arrivals

pub verdicts-told-so-far : (t : Rows) (arrivals : List Arrival) (events : List Event)
    → AreTimed arrivals → AreEventsSoFar t arrivals events → judged_in (told_by t events)
    ≡ verdicts_of t arrivals
verdicts-told-so-far t arrivals events timed are =
    told-judged t events ∙ only-came events
    ∙ ap judged_by (came-are t arrivals events timed are.in_order
    (λ e h. is-either t arrivals e (are.own e h).0)
    (λ e h. are.all e (is-admission t arrivals e h, not-after t arrivals e timed h)))
    ∙ judged-admissions t arrivals

-- ---- D lines

unfoldable pub departures_in : List Event → List Departure
departures_in [] = []
departures_in (Came c ∷ before) = departures_in before
departures_in (Left d ∷ before) = d ∷ departures_in before

received-left : (t : Rows) (past : List Arrived) (d : Leaving) (o : Option ℕ) (before : List Line)
    → left_in (with_reception t past d o before) ≡ left_in before
unfolding left_in
received-left t past d None before = refl
received-left t past d (Some system) before = refl

pub told-left : (t : Rows) (events : List Event) → left_in (told_by t events) ≡ map leaving (departures_in events)
unfolding left_in told_by departures_in
told-left t [] = refl
told-left t (Came c ∷ before) = told-left t before
told-left t (Left d ∷ before) =
    received-left t (brought_by d.port before) (leaving d) (listener_at t d.port)
    (Departed (leaving d) ∷ told_by t before) ∙ ap (λ ds. leaving d ∷ ds) (told-left t before)

pub left-among : (d : Departure) (events : List Event) → IsIn d (departures_in events) → IsAmong (Left d) events
unfolding departures_in
left-among d [] h = absurd h
left-among d (Came c ∷ before) h = inr (left-among d before h)
left-among d (Left e ∷ before) (inl same) = inl (ap (λ x. Left x) same)
left-among d (Left e ∷ before) (inr later) = inr (left-among d before later)

frames-of-turns : (vl : ℕ) (side : Side) (port : ℕ) (events : List Event) →
    map (λ (d : Leaving). d.frame)
    (filter (is_leaving vl side port) (map leaving (departures_in events)))
    ≡ frames_among vl (entries_back (turns_in (filter (is_at side port) events)))
unfolding departures_in
frames-of-turns vl side port [] = refl
frames-of-turns vl side port (Came c ∷ before) = frames-of-turns vl side port before
frames-of-turns vl side port (Left d ∷ before) =
    by (is_side side d.side && (d.port == port)) (names vl d.turn.entry.item.bytes) refl refl
    (frames-of-turns vl side port before)
  where
    by : (b c : Bool) → (is_side side d.side && (d.port == port)) ≡ b → names vl d.turn.entry.item.bytes ≡ c →
        map (λ (d : Leaving). d.frame)
        (filter (is_leaving vl side port) (map leaving (departures_in before)))
        ≡ frames_among vl (entries_back (turns_in (filter (is_at side port) before))) →
        map (λ (d : Leaving). d.frame)
        (filter (is_leaving vl side port) (leaving d ∷ map leaving (departures_in before)))
        ≡ frames_among vl (entries_back (turns_in (filter (is_at side port) (Left d ∷ before))))
    by true true here named rest = rw (here, named) (ap (λ fs. passing_in d.turn.entry ∷ fs) rest)
    by true false here named rest = rw (here, named) rest
    by false c here named rest = rw here rest

pub frames-told : (t : Rows) (vl : ℕ) (side : Side) (port : ℕ) (events : List Event)
    → frames_at vl side port (told_by t events)
    ≡ frames_among vl (entries_back (turns_in (filter (is_at side port) events)))
frames-told t vl side port events =
    ap (λ ds. map (λ (d : Leaving). d.frame) (filter (is_leaving vl side port) ds))
    (told-left t events) ∙ frames-of-turns vl side port events

-- none of them is a drop
pub slots-back : (vl : ℕ) (turns : List (Turn HeldFrame)) → NoneIsOld vl turns
    → frames_among vl (entries_back (slots turns)) ≡ frames_among vl (entries_back turns)
slots-back vl [] none = refl
slots-back vl (s ∷ earlier) none =
    by s.too_old (is_of vl s.entry) refl refl
    (slots-back vl earlier (λ k d lt. none (suc k) d (omega (arith, lt))))
  where
    by : (o b : Bool) → s.too_old ≡ o → is_of vl s.entry ≡ b
        → frames_among vl (entries_back (slots earlier)) ≡ frames_among vl (entries_back earlier) →
        frames_among vl (entries_back (slots (s ∷ earlier))) ≡ frames_among vl (entries_back (s ∷ earlier))
    by false true slot own rest = rw (slot, own) (ap (λ fs. passing_in s.entry ∷ fs) rest)
    by false false slot own rest = rw (slot, own) rest
    by true false old own rest = rw (old, own) rest
    by true true old own rest = absurd (let kept = none 0 s (omega arith) own in cc (kept, old))

-- ---- what comes to a port

pub came-told : (t : Rows) (port : ℕ) (events : List Event)
    → ((d : Departure) → IsAmong (Left d) events → d.turn.too_old ≡ false)
    → came_at port (told_by t events) ≡ brought_by port events
unfolding departures_in brought_by
came-told t port events slots =
    ap (λ ds. map arrived_as (filter (λ (d : Leaving). d.port == port) ds)) (told-left t events)
    ∙ by-events events slots
  where
    by-events : (es : List Event) → ((d : Departure) → IsAmong (Left d) es → d.turn.too_old ≡ false)
        → map arrived_as (filter (λ (d : Leaving). d.port == port) (map leaving (departures_in es)))
        ≡ brought_by port es
    by-events [] kept = refl
    by-events (Came c ∷ before) kept = by-events before (λ d h. kept d (inr h))
    by-events (Left d ∷ before) kept = by (d.port == port) (by-events before (λ e h. kept e (inr h)))
      where
        by : (b : Bool) → map arrived_as
            (filter (λ (d : Leaving). d.port == port) (map leaving (departures_in before)))
            ≡ brought_by port before →
            map arrived_as (if b then leaving d ∷ filter (λ (d : Leaving). d.port == port)
            (map leaving (departures_in before)) else filter (λ (d : Leaving). d.port == port)
            (map leaving (departures_in before)))
            ≡ (if b && not d.turn.too_old then brought d.side d.turn
            ∷ brought_by port before else brought_by port before)
        by true rest = rw (kept d (inl refl)) (ap (λ zs. brought d.side d.turn ∷ zs) rest)
        by false rest = rest
