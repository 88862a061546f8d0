-- The switches of both sides through one event more.
use Rattle.std.proofs.Common.{◌≡◌, ℕ, ◌+◌, ◌*◌, ◌<◌, ◌≤◌, List, [], ◌∷◌, length, refl, ap, sym}
use Rattle.std.proofs.Common.{subst, Bool, true, false, IsTrue, arith, ◌⊎◌, inl, inr, if◌then◌else◌}
use Rattle.std.specs.Prelude.{Option, Some, None, IfSome, IfNone, Result, Ok, Err, OnOk, ◌↔◌}
use Rattle.std.proofs.lemmas.Bool.{cases_eq}
use Rattle.std.proofs.lemmas.Option.{slice_get_within}
use Rattle.afdx_frame.specs.BySide.{on, with_on}
use Rattle.afdx_frame.specs.declared.link.Side.{Side}
use Rattle.afdx_frame.specs.declared.link.Side.TheVariants.{A, B}
use Rattle.afdx_config.specs.Lawful.{IsLawfulSwitch}
use Rattle.afdx_config.specs.Rows.{Rows}
use Rattle.afdx_police.specs.Arrival.{Arrival, arrival_with}
use Rattle.afdx_port.specs.declared.left.Due.{Due}
use Rattle.afdx_port.specs.Due.{given_at, IsBy, IsAfter, order_of}
use Rattle.afdx_port.specs.History.{due_at}
use Rattle.afdx_port.specs.Schedule.{Turn, IsNext}
use Rattle.afdx_law_bounds.proofs.TableLemmas.{byte-time}
use Rattle.afdx_switch.specs.HeldFrames.{HeldFrame}
use Rattle.afdx_switch.specs.Switching as switch
use Rattle.afdx_switch.specs.Switching.{SwitchHistory, PortTurn, IsNextAt, IsNextOf, IsDue, IsDone}
use Rattle.afdx_switch.specs.Switching.{GoesBefore, taken_at, with_arrival, with_take}
use Rattle.afdx_switch.specs.Tables.{byte_ns_at, entries_at}
use Rattle.afdx_switch.specs.Departures.{on_side}
use Rattle.afdx_switch.specs.declared.switch.Departure as switch_departure
use Rattle.afdx_switch.specs.declared.switch_state.SwitchState.{SwitchState}
use Rattle.afdx_switch.proofs.LawLemmas.{other-side-apart}
use Rattle.afdx_switch.proofs.TakeLemmas.{quiet-next}
use Rattle.afdx_network.specs.Events.{Event, Came, Left, departure_with, admission_after}
use Rattle.afdx_network.specs.Events.{arrivals_in, turns_on, calls_on}
use Rattle.afdx_network.specs.Order.{phase_of, side_number, key, is_below, is_before, IsAmong}
use Rattle.afdx_network.specs.First.{IsAFirst, IsBFirst, IsFirstSide}
use Rattle.afdx_network.specs.Network.{IsUntil, IsQuiet, departure_after, IsNextOn, StandsFor, GoesFirst, Gives}
use Rattle.afdx_network.specs.declared.network.Network.{Network}
use Rattle.afdx_network.proofs.OrderLemmas.{below_first, below_next, below_trans, before_trans, all_from}
use Rattle.afdx_network.proofs.EventLemmas.{ports-same, taken-same, taken-other}
use Rattle.afdx_network.proofs.TurnLemmas.{next-after}

-- nothing is due that is given after such a time
pub late-none : (o : Option Due) (until : ℕ) → 1200000000000000 ≤ until
    → IfSome o (λ d. given_at d ≤ 1200000000000000) → IfSome o (λ d. IsAfter until d) → o ≡ None
late-none None until late limit after = refl
late-none (Some d) until late limit after = absurd (omega (arith, late, limit, after))

pub if-none : (o : Option Due) (P : Type 0) → o ≡ None → IfNone o P → P
if-none o P e h = subst (λ z. IfNone z P) e h

not-late : (o : Option Due) (until : ℕ) (d : Due) → o ≡ Some d → IsBy until d → IfSome o (λ e. IsAfter until e) → ⊥
not-late o until d e by after = let a : IsAfter until d =
    subst (λ z. IfSome z (λ x. IsAfter until x)) e after in omega (arith, by, a)

pub on-ok : {V E : Type 0} (r : Result V E) (P Q : Type 0) → (P → Q) → OnOk r P → OnOk r Q
on-ok (Ok v) P Q f p = f p
on-ok (Err e) P Q f p = tt

-- what arrives at a time comes before a turn that is given after it
before-later : (time place end : ℕ) (o : Bool) (rest : List ℕ) → time < end + (if o then 1 else 0)
    → is_below (time ∷ 1 ∷ place ∷ []) (end ∷ phase_of o ∷ rest) ≡ true
before-later time place end false rest h = below_first time end (1 ∷ place ∷ []) (0 ∷ rest) (omega (arith, h))
before-later time place end true rest h =
    below_next time end (1 ∷ place ∷ []) (2 ∷ rest) (omega (arith, h))
    (below_first 1 2 (place ∷ []) rest (omega arith))

-- a turn that is given by a time comes before what arrives then
given-before : (end : ℕ) (o : Bool) (until time place : ℕ) (rest : List ℕ)
    → end + (if o then 1 else 0) ≤ until → until ≤ time
    → is_below (end ∷ phase_of o ∷ rest) (time ∷ 1 ∷ place ∷ []) ≡ true
given-before end false until time place rest h le =
    below_next end time (0 ∷ rest) (1 ∷ place ∷ []) (omega (arith, h, le))
    (below_first 0 1 rest (place ∷ []) (omega arith))
given-before end true until time place rest h le =
    below_first end time (2 ∷ rest) (1 ∷ place ∷ []) (omega (arith, h, le))

-- arrivals come one after another
arrival-later : (time later place : ℕ) (more : ℕ) → time ≤ later → place < more
    → is_below (time ∷ 1 ∷ place ∷ []) (later ∷ 1 ∷ more ∷ []) ≡ true
arrival-later time later place more le lt =
    below_next time later (1 ∷ place ∷ []) (1 ∷ more ∷ []) le
    (below_next 1 1 (place ∷ []) (more ∷ []) (omega arith) (below_first place more [] [] lt))

-- turns of two ports, by time and kind and then by what else is compared
order-key : (m n : ℕ) (a b : Bool) (ms ns : List ℕ)
    → (2 * m + (if a then 1 else 0) < 2 * n + (if b then 1 else 0))
    ⊎ ((2 * m + (if a then 1 else 0) ≡ 2 * n + (if b then 1 else 0)) × (is_below ms ns ≡ true)) →
    is_below (m ∷ phase_of a ∷ ms) (n ∷ phase_of b ∷ ns) ≡ true
order-key m n false false ms ns (inl lt) = below_first m n (0 ∷ ms) (0 ∷ ns) (omega (arith, lt))
order-key m n false false ms ns (inr h) =
    below_next m n (0 ∷ ms) (0 ∷ ns) (omega (arith, h.0)) (below_next 0 0 ms ns (omega arith) h.1)
order-key m n false true ms ns (inl lt) =
    below_next m n (0 ∷ ms) (2 ∷ ns) (omega (arith, lt)) (below_first 0 2 ms ns (omega arith))
order-key m n false true ms ns (inr h) = absurd (omega (arith, h.0))
order-key m n true false ms ns (inl lt) = below_first m n (2 ∷ ms) (0 ∷ ns) (omega (arith, lt))
order-key m n true false ms ns (inr h) = absurd (omega (arith, h.0))
order-key m n true true ms ns (inl lt) = below_first m n (2 ∷ ms) (2 ∷ ns) (omega (arith, lt))
order-key m n true true ms ns (inr h) =
    below_next m n (2 ∷ ms) (2 ∷ ns) (omega (arith, h.0)) (below_next 2 2 ms ns (omega arith) h.1)

-- what is compared of two turns of one time and kind
abbrev tail-of : List Event → Side → ℕ → List ℕ
tail-of events side port = side_number side ∷ port ∷ length (taken_at port (turns_on side events)) ∷ []

-- a turn goes before those of all other ports
abbrev pub IsFirstTurn : Rows → List Event → Side → ℕ → Turn HeldFrame → Type 0
IsFirstTurn t events side port s =
    (other : Side) (number : ℕ) (r : Turn HeldFrame) → 1 ≤ number → number ≤ 24
    → IsNextOn t events other number r → (other ≡ side → number ≡ port → ⊥) →
    is_before (Left (departure_after events side port s)) (Left (departure_after events other number r)) ≡ true

-- the switches so far, and the next departure
module _ (t : Rows) (n : Network) (events : List Event) (st : StandsFor t n events) where
  module _ (side : Side) (port : ℕ) (s : Turn HeldFrame) (low : 1 ≤ port) (high : port ≤ 24)
      (next : IsNextOn t events side port s) (first : IsFirstTurn t events side port s) where
    abbrev new_events : List Event
    new_events = Left (departure_after events side port s) ∷ events

    before-it : (e : Event) → IsAmong e events → is_before e (Left (departure_after events side port s)) ≡ true
    before-it e among = st.next side port s low high next e among

    -- all come before the next turn of each port still
    abbrev IsBeforeNext : Side → ℕ → Event → List (Turn HeldFrame) → Type 0
    IsBeforeNext other number e turns =
        (r : Turn HeldFrame) → IsNext (byte_ns_at t number)
        (entries_at t other number (arrivals_in events)) turns r
        → is_before e (Left (departure_with other number (length turns) r)) ≡ true

    here : (e : Event) → IsAmong e new_events → IsBeforeNext side port e (taken_at port (turns_on side new_events))
    here e among = subst (λ ts. IsBeforeNext side port e ts)
        (sym (taken-same (departure_after events side port s) events)) (λ r is_next.
        let up = next-after side port (byte_ns_at t port)
        (entries_at t side port (arrivals_in events)) s (taken_at port (turns_on side events)) r
        (byte-time t port st.lawful) is_next in
        elim among [
          | inl same ↦ subst (λ z.
              is_before z (Left (departure_with side port
              (length (s ∷ taken_at port (turns_on side events))) r)) ≡ true) (sym same) up
          | inr old ↦ before_trans e (Left (departure_after events side port s))
              (Left (departure_with side port (length (s ∷ taken_at port (turns_on side events)))
              r)) (before-it e old) up
        ])

    there : (other : Side) (number : ℕ) (e : Event) → 1 ≤ number → number ≤ 24
        → (other ≡ side → number ≡ port → ⊥) → IsAmong e new_events
        → IsBeforeNext other number e (taken_at number (turns_on other new_events))
    there other number e least most apart among =
        subst (λ ts. IsBeforeNext other number e ts)
        (sym (taken-other other number (departure_after events side port s) events apart)) (λ r is_next.
        elim among [
          | inl same ↦ subst (λ z. is_before z (Left (departure_after events other number r))
              ≡ true) (sym same) (first other number r least most is_next apart)
          | inr old ↦ st.next other number r least most is_next e old
        ])

    next-stays : (other : Side) (number : ℕ) (r : Turn HeldFrame) → 1 ≤ number → number ≤ 24
        → IsNextOn t new_events other number r → (e : Event) → IsAmong e new_events →
        is_before e (Left (departure_after new_events other number r)) ≡ true
    next-stays other number r least most is_next e among =
        elim (ports-same other number (departure_after events side port s)) [
          | inr apart ↦ there other number e least most apart among r is_next
          | inl same ↦
              (subst (λ x. IsBeforeNext x number e (taken_at number (turns_on x new_events))) (sym same.0)
              (subst (λ k. IsBeforeNext side k e (taken_at k (turns_on side new_events))) (sym same.1)
              (here e among))) r is_next
        ]

    past-stays : (until time : ℕ) → IsBy until (due_at s) → until ≤ time → IsUntil n time
        → (e : Event) → IsAmong e new_events
        → is_below (key e) (time ∷ 1 ∷ length (arrivals_in new_events) ∷ []) ≡ true
    past-stays until time by le is_until e among = elim among [
      | inl same ↦
          subst (λ z. is_below (key z) (time ∷ 1 ∷ length (arrivals_in events) ∷ []) ≡ true) (sym same)
          (given-before s.end s.too_old until time (length (arrivals_in events))
          (side_number side ∷ port ∷ length (taken_at port (turns_on side events)) ∷ []) by le)
      | inr old ↦ st.past time is_until e old
    ]

  -- side A gives the next departure
  pub stands-left-a : (a : SwitchState) (until port : ℕ) (s : Turn HeldFrame) → 1 ≤ port → port ≤ 24
      → IsNextOn t events A port s → IsFirstTurn t events A port s → IsBy until (due_at s)
      → switch.last_time n.switches.a ≤ until →
      switch.StandsFor t A a (with_take (calls_on A events (switch.last_time n.switches.a))
      (record { port = port; turn = s }) until) →
      StandsFor t (record { switches = record { a = a; b = n.switches.b } })
      (Left (departure_after events A port s) ∷ events)
  stands-left-a a until port s low high next first by later is = record {
    lawful = st.lawful;
    on_a = subst (λ time. switch.StandsFor t A a
        (calls_on A (Left (departure_after events A port s) ∷ events) time)) (sym is.time) is;
    on_b = st.on_b;
    in_order = (
      all_from (λ e. IsTrue (is_before e (Left (departure_after events A port s)))) events
          (before-it A port s low high next first),
      st.in_order,
    );
    follows = ((low, high, refl), st.follows);
    past = λ time u. past-stays A port s low high next first until time by
        (let clock = is.time in omega (arith, clock, u.on_a))
        (record { on_a = let clock = is.time in omega (arith, clock, u.on_a, later); on_b = u.on_b });
    next = next-stays A port s low high next first;
  }

  pub stands-left-b : (b : SwitchState) (until port : ℕ) (s : Turn HeldFrame) → 1 ≤ port → port ≤ 24
      → IsNextOn t events B port s → IsFirstTurn t events B port s → IsBy until (due_at s)
      → switch.last_time n.switches.b ≤ until →
      switch.StandsFor t B b (with_take (calls_on B events (switch.last_time n.switches.b))
      (record { port = port; turn = s }) until) →
      StandsFor t (record { switches = record { a = n.switches.a; b = b } })
      (Left (departure_after events B port s) ∷ events)
  stands-left-b b until port s low high next first by later is = record {
    lawful = st.lawful;
    on_a = st.on_a;
    on_b = subst (λ time. switch.StandsFor t B b
        (calls_on B (Left (departure_after events B port s) ∷ events) time)) (sym is.time) is;
    in_order = (
      all_from (λ e. IsTrue (is_before e (Left (departure_after events B port s)))) events
          (before-it B port s low high next first),
      st.in_order,
    );
    follows = ((low, high, refl), st.follows);
    past = λ time u. past-stays B port s low high next first until time by
        (let clock = is.time in omega (arith, clock, u.on_b))
        (record { on_a = u.on_a; on_b = let clock = is.time in omega (arith, clock, u.on_b, later) });
    next = next-stays B port s low high next first;
  }

  -- what is due at a switch goes at or after m, so each next turn there does
  pub due-least : (side : Side) (h : SwitchHistory) (o : Option Due) (m : ℕ)
      → IfSome o (λ d. IsDue t side h d)
      → ((port : ℕ) → 1 ≤ port → port ≤ 24 → IfNone o (IsDone t side h port))
      → IfSome o (λ d. m ≤ order_of d) →
      (port : ℕ) (s : Turn HeldFrame) → 1 ≤ port → port ≤ 24 → IsNextAt t side h port s → m ≤ order_of (due_at s)
  due-least side h None m due done le port s low high next =
      absurd (let all = (done port low high).all_have_turns s.place
      (slice_get_within (entries_at t side port h.arrivals) s.place s.entry next.own.stands) in
      let none = next.own.without in cc)
  due-least side h (Some d) m due done le port s low high next =
      let is : order_of d ≡ order_of (due_at due.gone.turn) = ap (λ z. order_of z) due.is in
      elim (due.next.first port s low high next)
      [ inl lt ↦ omega (arith, le, is, lt) | inr same ↦ omega (arith, le, is, same.0) ]

  if-less : (o : Option Due) (m : ℕ) → IfSome o (λ d. m < order_of d) → IfSome o (λ d. m + 1 ≤ order_of d)
  if-less None m h = tt
  if-less (Some d) m h = omega (arith, h)

  -- a switch's next turn goes no later than what is due there
  pub gone-least : (side : Side) (h : SwitchHistory) (gone : PortTurn) (d : Due) → IsNextOf t side h gone
      → IsDue t side h d → order_of (due_at gone.turn) ≤ order_of d
  gone-least side h gone d next due =
      let is : order_of d ≡ order_of (due_at due.gone.turn) = ap (λ z. order_of z) due.is in
      elim (next.first due.gone.port due.gone.turn due.next.port_first due.next.port_last
      due.next.next) [ inl lt ↦ omega (arith, is, lt) | inr same ↦ omega (arith, is, same.0) ]

  -- a switch's next turn goes before those of its other ports
  own-first : (side : Side) (time port : ℕ) (s : Turn HeldFrame)
      → IsNextOf t side (calls_on side events time) (record { port = port; turn = s })
      → (number : ℕ) (r : Turn HeldFrame) → 1 ≤ number → number ≤ 24 → IsNextOn t events side number r →
      (number ≡ port → ⊥) → is_before (Left (departure_after events side port s))
      (Left (departure_after events side number r)) ≡ true
  own-first side time port s next number r low high is_next apart =
      order-key s.end r.end s.too_old r.too_old (tail-of events side port)
      (tail-of events side number) (elim (next.first number r low high is_next) [
        | inl lt ↦ inl lt
        | inr same ↦ inr (
          same.0,
          below_next (side_number side) (side_number side)
              (port ∷ length (taken_at port (turns_on side events)) ∷ [])
              (number ∷ length (taken_at number (turns_on side events)) ∷ []) (omega arith)
              (below_first port number (length (taken_at port (turns_on side events)) ∷ [])
              (length (taken_at number (turns_on side events)) ∷ [])
              (elim (cases_eq number port) [
                | inl k ↦ absurd (apart k)
                | inr k ↦ omega (arith, k, same.1)
              ])),
        )
      ])

  pub first-a : (time port : ℕ) (s : Turn HeldFrame)
      → IsNextOf t A (calls_on A events time) (record { port = port; turn = s }) →
      ((number : ℕ) (r : Turn HeldFrame) → 1 ≤ number → number ≤ 24 → IsNextOn t events B number r
      → order_of (due_at s) ≤ order_of (due_at r)) → IsFirstTurn t events A port s
  first-a time port s next others A number r low high is_next apart =
      own-first A time port s next number r low high is_next (λ same. apart refl same)
  first-a time port s next others B number r low high is_next apart =
      let le = others number r low high is_next in
      order-key s.end r.end s.too_old r.too_old (tail-of events A port) (tail-of events B number)
      (elim (cases_eq (order_of (due_at s)) (order_of (due_at r))) [
        | inl same ↦ inr (
          same,
          below_first 0 1
              (port ∷ length (taken_at port (turns_on A events)) ∷ [])
              (number ∷ length (taken_at number (turns_on B events)) ∷ []) (omega arith),
        )
        | inr other ↦ inl (omega (arith, le, other))
      ])

  pub first-b : (time port : ℕ) (s : Turn HeldFrame)
      → IsNextOf t B (calls_on B events time) (record { port = port; turn = s }) →
      ((number : ℕ) (r : Turn HeldFrame) → 1 ≤ number → number ≤ 24 → IsNextOn t events A number r
      → order_of (due_at s) + 1 ≤ order_of (due_at r)) → IsFirstTurn t events B port s
  first-b time port s next others B number r low high is_next apart =
      own-first B time port s next number r low high is_next (λ same. apart refl same)
  first-b time port s next others A number r low high is_next apart =
      order-key s.end r.end s.too_old r.too_old (tail-of events B port) (tail-of events A number)
      (inl (let le = others number r low high is_next in omega (arith, le)))

  if-more : (o : Option Due) (m k : ℕ) → m ≤ k → IfSome o (λ d. k ≤ order_of d) → IfSome o (λ d. m ≤ order_of d)
  if-more None m k le h = tt
  if-more (Some d) m k le h = omega (arith, le, h)

  any-time : (side : Side) (time : ℕ) (gone : PortTurn) → IsNextOf t side (calls_on side events time) gone
      → IsNextOf t side (calls_on side events 0) gone
  any-time side time gone next = record {
    port_first = next.port_first;
    port_last = next.port_last;
    next = next.next;
    first = next.first;
  }

  goes-first-a : (time : ℕ) (gone : PortTurn) → IsNextOf t A (calls_on A events time) gone
      → ((number : ℕ) (r : Turn HeldFrame) → 1 ≤ number → number ≤ 24 → IsNextOn t events B number r
      → order_of (due_at gone.turn) ≤ order_of (due_at r)) → GoesFirst t events A gone.turn
  goes-first-a time gone next others A number r low high is_next = elim (next.first number r low high is_next) [
    | inl lt ↦ inl lt
    | inr same ↦ inr (same.0, omega arith)
  ]
  goes-first-a time gone next others B number r low high is_next =
      let le = others number r low high is_next in
      elim (cases_eq (order_of (due_at gone.turn)) (order_of (due_at r))) [
        | inl same ↦ inr (same, omega arith)
        | inr other ↦ inl (omega (arith, le, other))
      ]

  goes-first-b : (time : ℕ) (gone : PortTurn) → IsNextOf t B (calls_on B events time) gone
      → ((number : ℕ) (r : Turn HeldFrame) → 1 ≤ number → number ≤ 24 → IsNextOn t events A number r
      → order_of (due_at gone.turn) + 1 ≤ order_of (due_at r)) → GoesFirst t events B gone.turn
  goes-first-b time gone next others B number r low high is_next = elim (next.first number r low high is_next) [
    | inl lt ↦ inl lt
    | inr same ↦ inr (same.0, omega arith)
  ]
  goes-first-b time gone next others A number r low high is_next =
      inl (let le = others number r low high is_next in omega (arith, le))

  gives-a : (a : SwitchState) (until : ℕ) (value : switch_departure.Departure)
      (due_a due_b : Option Due) → IsAFirst until due_a due_b → switch.last_time n.switches.a ≤ until →
      IfSome due_a (λ d. IsDue t A (calls_on A events (switch.last_time n.switches.a)) d)
      → IfSome due_b (λ d. IsDue t B (calls_on B events (switch.last_time n.switches.b)) d) →
      ((port : ℕ) → 1 ≤ port → port ≤ 24 → IfNone due_b
      (IsDone t B (calls_on B events (switch.last_time n.switches.b)) port)) →
      switch.Gives t A (calls_on A events (switch.last_time n.switches.a)) until value a
      → Gives t events until (on_side A value)
      (record { switches = record { a = a; b = n.switches.b } })
  gives-a a until value due_a due_b first clock comes_a comes_b done_b g =
      let due : IsDue t A (calls_on A events (switch.last_time n.switches.a)) first.due =
      subst (λ z. IfSome z (λ d. IsDue t A (calls_on A events (switch.last_time n.switches.a)) d))
      first.is comes_a in
      let least = gone-least A (calls_on A events (switch.last_time n.switches.a)) g.gone first.due g.next due in
      let others = due-least B (calls_on B events (switch.last_time n.switches.b)) due_b
      (order_of (due_at g.gone.turn)) comes_b done_b
      (if-more due_b (order_of (due_at g.gone.turn)) (order_of first.due) least first.first) in
      record {
        departure = departure_after events A g.gone.port g.gone.turn;
        in_time = g.in_time;
        hands = record { side = refl; port = g.hands.port; left = g.hands.left };
        stands = stands-left-a a until g.gone.port g.gone.turn g.next.port_first g.next.port_last
            g.next.next (first-a (switch.last_time n.switches.a) g.gone.port g.gone.turn g.next others)
            g.in_time clock g.stands;
        next = any-time A (switch.last_time n.switches.a) g.gone g.next;
        first = goes-first-a (switch.last_time n.switches.a) g.gone g.next others;
      }

  gives-b : (b : SwitchState) (until : ℕ) (value : switch_departure.Departure)
      (due_a due_b : Option Due) → IsBFirst until due_a due_b → switch.last_time n.switches.b ≤ until →
      IfSome due_b (λ d. IsDue t B (calls_on B events (switch.last_time n.switches.b)) d)
      → IfSome due_a (λ d. IsDue t A (calls_on A events (switch.last_time n.switches.a)) d) →
      ((port : ℕ) → 1 ≤ port → port ≤ 24 → IfNone due_a
      (IsDone t A (calls_on A events (switch.last_time n.switches.a)) port)) →
      switch.Gives t B (calls_on B events (switch.last_time n.switches.b)) until value b
      → Gives t events until (on_side B value)
      (record { switches = record { a = n.switches.a; b = b } })
  gives-b b until value due_a due_b first clock comes_b comes_a done_a g =
      let due : IsDue t B (calls_on B events (switch.last_time n.switches.b)) first.due =
      subst (λ z. IfSome z (λ d. IsDue t B (calls_on B events (switch.last_time n.switches.b)) d))
      first.is comes_b in
      let least = gone-least B (calls_on B events (switch.last_time n.switches.b)) g.gone first.due g.next due in
      let others = due-least A (calls_on A events (switch.last_time n.switches.a)) due_a
      (order_of (due_at g.gone.turn) + 1) comes_a done_a
      (if-more due_a (order_of (due_at g.gone.turn) + 1) (order_of first.due + 1)
      (omega (arith, least)) (if-less due_a (order_of first.due) first.first)) in
      record {
        departure = departure_after events B g.gone.port g.gone.turn;
        in_time = g.in_time;
        hands = record { side = refl; port = g.hands.port; left = g.hands.left };
        stands = stands-left-b b until g.gone.port g.gone.turn g.next.port_first g.next.port_last
            g.next.next (first-b (switch.last_time n.switches.b) g.gone.port g.gone.turn g.next others)
            g.in_time clock g.stands;
        next = any-time B (switch.last_time n.switches.b) g.gone g.next;
        first = goes-first-b (switch.last_time n.switches.b) g.gone g.next others;
      }

  -- a frame arrived at side A
  module _ (time : ℕ) (until : IsUntil n time) (x : Arrival) (at : x.time ≡ time) (new : Network)
      (later : (u : ℕ) → IsUntil new u → (time ≤ u) × IsUntil n u)
      (quiet : (side : Side) (port : ℕ) (s : Turn HeldFrame) → 1 ≤ port → port ≤ 24
      → IsNextOn t (Came (admission_after t (arrivals_in events) x) ∷ events) side port s
      → IsAfter time (due_at s)) where
    abbrev came : List Event
    came = Came (admission_after t (arrivals_in events) x) ∷ events

    came-after : (e : Event) → IsAmong e events → is_before e (Came (admission_after t (arrivals_in events) x)) ≡ true
    came-after e among = subst
        (λ k. is_below (key e) (k ∷ 1 ∷ length (arrivals_in events) ∷ []) ≡ true) (sym at)
        (st.past time until e among)

    came-past : (u : ℕ) → IsUntil new u → (e : Event) → IsAmong e came
        → is_below (key e) (u ∷ 1 ∷ length (arrivals_in came) ∷ []) ≡ true
    came-past u is e among =
        let old = later u is in
        elim among [
          | inl same ↦ subst (λ z. is_below (key z) (u ∷ 1 ∷ length (arrivals_in came) ∷ []) ≡ true)
              (sym same) (arrival-later x.time u (length (arrivals_in events))
              (length (arrivals_in came)) (omega (arith, at, old.0)) (omega arith))
          | inr earlier ↦ below_trans (key e) (u ∷ 1 ∷ length (arrivals_in events) ∷ [])
              (u ∷ 1 ∷ length (arrivals_in came) ∷ []) (st.past u old.1 e earlier)
              (arrival-later u u (length (arrivals_in events)) (length (arrivals_in came))
              (omega arith) (omega arith))
        ]

    came-next : (side : Side) (port : ℕ) (s : Turn HeldFrame) → 1 ≤ port → port ≤ 24
        → IsNextOn t came side port s → (e : Event) → IsAmong e came
        → is_before e (Left (departure_after came side port s)) ≡ true
    came-next side port s low high is_next e among =
        let up : is_before (Came (admission_after t (arrivals_in events) x))
        (Left (departure_after came side port s)) ≡ true =
        subst (λ k. is_below (k ∷ 1 ∷ length (arrivals_in events) ∷ [])
        (key (Left (departure_after came side port s))) ≡ true) (sym at)
        (before-later time (length (arrivals_in events)) s.end s.too_old (tail-of came side port)
        (quiet side port s low high is_next)) in
        elim among [
          | inl same ↦ subst (λ z. is_before z (Left (departure_after came side port s)) ≡ true) (sym same) up
          | inr old ↦ before_trans e (Came (admission_after t (arrivals_in events) x))
              (Left (departure_after came side port s)) (came-after e old) up
        ]

  stands-came-a : (a : SwitchState) (tag time port : ℕ) (bytes : List ℕ) → IsUntil n time
      → switch.StandsFor t A a (with_arrival (calls_on A events (switch.last_time n.switches.a))
      (arrival_with tag time A port bytes)) →
      switch.IsQuiet a time → switch.IsQuiet n.switches.b time
      → StandsFor t (record { switches = record { a = a; b = n.switches.b } })
      (Came (admission_after t (arrivals_in events) (arrival_with tag time A port bytes)) ∷ events)
  stands-came-a a tag time port bytes until is quiet_a quiet_b = record {
    lawful = st.lawful;
    on_a = subst (λ k. switch.StandsFor t A a
        (calls_on A (Came (admission_after t (arrivals_in events)
        (arrival_with tag time A port bytes)) ∷ events) k)) (sym is.time) is;
    on_b = on_b;
    in_order = (
      all_from (λ e.
          IsTrue (is_before e (Came (admission_after t (arrivals_in events)
          (arrival_with tag time A port bytes))))) events
          (came-after time until (arrival_with tag time A port bytes) refl
          (record { switches = record { a = a; b = n.switches.b } })
          later quiet),
      st.in_order,
    );
    follows = (refl, st.follows);
    past = came-past time until (arrival_with tag time A port bytes) refl
        (record { switches = record { a = a; b = n.switches.b } }) later quiet;
    next = came-next time until (arrival_with tag time A port bytes) refl
        (record { switches = record { a = a; b = n.switches.b } }) later quiet;
  }
    where
      on_b : switch.StandsFor t B n.switches.b
          (calls_on B (Came (admission_after t (arrivals_in events)
          (arrival_with tag time A port bytes)) ∷ events) (switch.last_time n.switches.b))
      on_b = other-side-apart t B n.switches.b (calls_on B events (switch.last_time n.switches.b))
          (arrival_with tag time A port bytes) st.on_b refl

      later : (u : ℕ) → IsUntil (record { switches = record { a = a; b = n.switches.b } }) u → (time ≤ u) × IsUntil n u
      later u h = let clock = is.time in (
        omega (arith, clock, h.on_a),
        record { on_a = omega (arith, clock, h.on_a, until.on_a); on_b = h.on_b },
      )

      quiet : (side : Side) (number : ℕ) (s : Turn HeldFrame) → 1 ≤ number → number ≤ 24
          → IsNextOn t (Came (admission_after t (arrivals_in events)
          (arrival_with tag time A port bytes)) ∷ events) side number s → IsAfter time (due_at s)
      quiet A number s low high next =
          quiet-next t A a (with_arrival (calls_on A events (switch.last_time n.switches.a))
          (arrival_with tag time A port bytes)) is time quiet_a number s low high next
      quiet B number s low high next =
          quiet-next t B n.switches.b (calls_on B
          (Came (admission_after t (arrivals_in events) (arrival_with tag time A port bytes))
          ∷ events) (switch.last_time n.switches.b)) on_b time quiet_b number s low high next

  stands-came-b : (b : SwitchState) (tag time port : ℕ) (bytes : List ℕ) → IsUntil n time
      → switch.StandsFor t B b (with_arrival (calls_on B events (switch.last_time n.switches.b))
      (arrival_with tag time B port bytes)) →
      switch.IsQuiet n.switches.a time → switch.IsQuiet b time
      → StandsFor t (record { switches = record { a = n.switches.a; b = b } })
      (Came (admission_after t (arrivals_in events) (arrival_with tag time B port bytes)) ∷ events)
  stands-came-b b tag time port bytes until is quiet_a quiet_b = record {
    lawful = st.lawful;
    on_a = on_a;
    on_b = subst (λ k. switch.StandsFor t B b
        (calls_on B (Came (admission_after t (arrivals_in events)
        (arrival_with tag time B port bytes)) ∷ events) k)) (sym is.time) is;
    in_order = (
      all_from (λ e.
          IsTrue (is_before e (Came (admission_after t (arrivals_in events)
          (arrival_with tag time B port bytes))))) events
          (came-after time until (arrival_with tag time B port bytes) refl
          (record { switches = record { a = n.switches.a; b = b } })
          later quiet),
      st.in_order,
    );
    follows = (refl, st.follows);
    past = came-past time until (arrival_with tag time B port bytes) refl
        (record { switches = record { a = n.switches.a; b = b } }) later quiet;
    next = came-next time until (arrival_with tag time B port bytes) refl
        (record { switches = record { a = n.switches.a; b = b } }) later quiet;
  }
    where
      on_a : switch.StandsFor t A n.switches.a
          (calls_on A (Came (admission_after t (arrivals_in events)
          (arrival_with tag time B port bytes)) ∷ events) (switch.last_time n.switches.a))
      on_a = other-side-apart t A n.switches.a (calls_on A events (switch.last_time n.switches.a))
          (arrival_with tag time B port bytes) st.on_a refl

      later : (u : ℕ) → IsUntil (record { switches = record { a = n.switches.a; b = b } }) u → (time ≤ u) × IsUntil n u
      later u h = let clock = is.time in (
        omega (arith, clock, h.on_b),
        record { on_a = h.on_a; on_b = omega (arith, clock, h.on_b, until.on_b) },
      )

      quiet : (side : Side) (number : ℕ) (s : Turn HeldFrame) → 1 ≤ number → number ≤ 24
          → IsNextOn t (Came (admission_after t (arrivals_in events)
          (arrival_with tag time B port bytes)) ∷ events) side number s → IsAfter time (due_at s)
      quiet A number s low high next =
          quiet-next t A n.switches.a (calls_on A
          (Came (admission_after t (arrivals_in events) (arrival_with tag time B port bytes))
          ∷ events) (switch.last_time n.switches.a)) on_a time quiet_a number s low high next
      quiet B number s low high next =
          quiet-next t B b (with_arrival (calls_on B events (switch.last_time n.switches.b))
          (arrival_with tag time B port bytes)) is time quiet_b number s low high next

  -- the switch of a side
  pub stands-on : (side : Side) → switch.StandsFor t side (on side n.switches)
      (calls_on side events (switch.last_time (on side n.switches)))
  stands-on A = st.on_a
  stands-on B = st.on_b

  -- a frame arrived there
  pub stands-came : (side : Side) (new : SwitchState) (tag time port : ℕ) (bytes : List ℕ) → IsUntil n time
      → switch.StandsFor t side new (with_arrival (calls_on side events (switch.last_time (on side n.switches)))
      (arrival_with tag time side port bytes)) →
      switch.IsQuiet new time → IsQuiet n time
      → StandsFor t (record { switches = with_on side n.switches new })
      (Came (admission_after t (arrivals_in events) (arrival_with tag time side port bytes)) ∷ events)
  stands-came A new tag time port bytes until is quiet old =
      stands-came-a new tag time port bytes until is quiet old.on_b
  stands-came B new tag time port bytes until is quiet old =
      stands-came-b new tag time port bytes until is old.on_a quiet

  -- its turn goes first, and is given
  pub gives-at : (side : Side) (new : SwitchState) (until : ℕ) (value : switch_departure.Departure)
      (due_a due_b : Option Due) → IsFirstSide until due_a due_b (Some side) → IsUntil n until →
      IfSome due_a (λ d. IsDue t A (calls_on A events (switch.last_time n.switches.a)) d)
      → IfSome due_b (λ d. IsDue t B (calls_on B events (switch.last_time n.switches.b)) d) →
      ((port : ℕ) → 1 ≤ port → port ≤ 24 → IfNone due_a
      (IsDone t A (calls_on A events (switch.last_time n.switches.a)) port)) →
      ((port : ℕ) → 1 ≤ port → port ≤ 24 → IfNone due_b
      (IsDone t B (calls_on B events (switch.last_time n.switches.b)) port)) →
      switch.Gives t side (calls_on side events (switch.last_time (on side n.switches))) until value new
      → Gives t events until (on_side side value)
      (record { switches = with_on side n.switches new })
  gives-at A new until value due_a due_b first clock comes_a comes_b done_a done_b gives =
      gives-a new until value due_a due_b first clock.on_a comes_a comes_b done_b gives
  gives-at B new until value due_a due_b first clock comes_a comes_b done_a done_b gives =
      gives-b new until value due_a due_b first clock.on_b comes_b comes_a done_a gives

-- the side whose turn goes first, by then, gives it
pub must-give : (side : Side) (n : Network) (until : ℕ) (due_a due_b : Option Due)
    → IsFirstSide until due_a due_b (Some side)
    → ((time : ℕ) → switch.IsQuiet n.switches.a time ↔ IfSome due_a (λ d. IsAfter time d))
    → ((time : ℕ) → switch.IsQuiet n.switches.b time ↔ IfSome due_b (λ d. IsAfter time d))
    → switch.IsQuiet (on side n.switches) until → ⊥
must-give A n until due_a due_b first iff_a iff_b quiet =
    not-late due_a until first.due first.is first.in_time ((iff_a until).0 quiet)
must-give B n until due_a due_b first iff_a iff_b quiet =
    not-late due_b until first.due first.is first.in_time ((iff_b until).0 quiet)

-- nothing has come yet
pub stands-new : (t : Rows) (n : Network) → IsLawfulSwitch t → switch.StandsFor t A n.switches.a switch.no_calls
    → switch.StandsFor t B n.switches.b switch.no_calls → StandsFor t n []
stands-new t n lawful on_a on_b = record {
  lawful = lawful;
  on_a = subst (λ k. switch.StandsFor t A n.switches.a (calls_on A [] k)) (sym on_a.time) on_a;
  on_b = subst (λ k. switch.StandsFor t B n.switches.b (calls_on B [] k)) (sym on_b.time) on_b;
  in_order = tt;
  follows = tt;
  past = λ time u e among. absurd among;
  next = λ side port s low high is_next e among. absurd among;
}
