-- What the events of a replay bring to a port.
use Rattle.afdx_network.proofs.OrderedLemmas.{are-events, one-order-so-far}
use Rattle.std.proofs.Common.{◌≡◌, ℕ, ◌+◌, ◌*◌, ◌<◌, ◌≤◌, ◌==◌, ◌&&◌, Bool, true, false, not}
use Rattle.std.proofs.Common.{IsTrue, List, [], ◌∷◌, ◌++◌, length, map, filter, refl, sym, ap, ◌∙◌}
use Rattle.std.proofs.Common.{subst, arith, inl, inr}
use Rattle.std.specs.Prelude.{if◌then◌else◌, ◌⊎◌}
use Rattle.std.specs.List.{AllByRecursion}
use Rattle.std.proofs.lemmas.List.Elements.{filter-append}
use Rattle.std.proofs.lemmas.Bool.{eqb-true, eq-eqb, and_parts, cases_lt, lt-ltb, le-ltb}
use Rattle.afdx_frame.specs.declared.link.Side.{Side}
use Rattle.afdx_frame.specs.declared.link.Side.TheVariants.{A, B}
use Rattle.afdx_frame.proofs.SideLemmas.{is_side-same}
use Rattle.afdx_config.specs.Lawful.{IsLawfulSwitch}
use Rattle.afdx_config.specs.Rows.{Rows}
use Rattle.afdx_police.specs.Arrival.{Arrival, is_side}
use Rattle.afdx_port.specs.Schedule.{Entry, Turn, AreTurns}
use Rattle.afdx_law_bounds.specs.Outputs.{AreTimed}
use Rattle.afdx_receive.proofs.StreamLemmas.{same_self}
use Rattle.afdx_law_bounds.proofs.TableLemmas.{byte-time}
use Rattle.afdx_switch.specs.Admitted.{IsAdmittedRun, IsInTime, slots, frames_left}
use Rattle.afdx_switch.specs.Switching.{taken_at}
use Rattle.afdx_switch.specs.Verdicts.{is_lost_at, numbers, lost_ports}
use Rattle.afdx_switch.proofs.AdmittedLemmas.{turn-in-time}
use Rattle.afdx_switch.specs.HeldFrames.{HeldFrame}
use Rattle.afdx_switch.specs.Tables.{byte_ns_at, entries_at}
use Rattle.afdx_network.specs.Events.{Event, Came, Left, Admission, Departure, departure_with}
use Rattle.afdx_network.specs.Events.{admission_after, admissions, turns_on, turns_at}
use Rattle.afdx_network.specs.Events.{departures_of, departures, all_events}
use Rattle.afdx_network.specs.Order.{side_number, phase_of, key, is_below, is_before, IsAmong}
use Rattle.afdx_network.specs.Order.{AreInOrder, AreEvents, AreEventsSoFar, is_told_by, events_of}
use Rattle.afdx_network.specs.Order.{events_so_far}
use Rattle.afdx_network.proofs.OrderLemmas.{before_trans, below_trans, same_events}
use Rattle.afdx_network.proofs.EventLemmas.{turn-of, at-port-of, is-departure, is-either}
use Rattle.afdx_network.proofs.TurnLemmas.{next-after}
use Rattle.afdx_network.proofs.OrderedLemmas.{filter-own, filter-all, filter-order}
use Rattle.afdx_law_promises.specs.Receptions.{brought, is_from, order_of, ComeInOrder, brought_by, AreReceptions}
use Rattle.afdx_law_promises.specs.NetworkPromises.{IsAsPromised}
use Rattle.afdx_law_promises.specs.NetworkPromises.{EventsAreAsPromised, EventsSoFarAreAsPromised}
use Rattle.afdx_law_promises.proofs.PromiseLemmas.{judged-alone, run-from}
use Rattle.afdx_law_promises.proofs.ListLemmas.{all-imply}
use Rattle.afdx_law_promises.proofs.PortLemmas.{its-turns, left-are-accepted, frames-more}

-- ---- the departures of one port among events

abbrev pub is_at : Side → ℕ → Event → Bool
is_at side port (Came c) = false
is_at side port (Left d) = is_side side d.side && (d.port == port)

abbrev pub turns_in : List Event → List (Turn HeldFrame)
turns_in [] = []
turns_in (Came c ∷ before) = turns_in before
turns_in (Left d ∷ before) = d.turn ∷ turns_in before

departures-ordered : (side : Side) (port byte_ns : ℕ) (entries : List (Entry HeldFrame))
    (turns : List (Turn HeldFrame)) → 0 < byte_ns → AreTurns byte_ns entries turns
    → AreInOrder (departures_of side port turns)
departures-ordered side port byte_ns entries [] some are = tt
departures-ordered side port byte_ns entries (x ∷ []) some are = (tt, tt)
departures-ordered side port byte_ns entries (x ∷ (y ∷ earlier)) some are =
    let rest = departures-ordered side port byte_ns entries (y ∷ earlier) some are.1 in
    let dx = Left (departure_with side port (length (y ∷ earlier)) x) in
    let dy = Left (departure_with side port (length earlier) y) in
    let up : is_before dy dx ≡ true = next-after side port byte_ns entries y earlier x some are.0 in (
      (
        up,
        all-imply (λ d. IsTrue (is_before d dy)) (λ d. IsTrue (is_before d dx))
            (departures_of side port earlier) (λ d h. before_trans d dy dx h up) rest.0,
      ),
      rest,
    )

came-is : (t : Rows) (side : Side) (port : ℕ) (arrivals : List Arrival) (e : Event)
    → IsAmong e (admissions t arrivals) → is_at side port e ≡ false
unfolding admissions
came-is t side port [] e h = absurd h
came-is t side port (x ∷ past) e (inl same) = ap (is_at side port) same
came-is t side port (x ∷ past) e (inr later) = came-is t side port past e later

turn-is-at : (side : Side) (port : ℕ) (turns : List (Turn HeldFrame)) (e : Event)
    → IsAmong e (departures_of side port turns) → is_at side port e ≡ true
turn-is-at side port turns e h =
    let r = turn-of side port turns e h in
    let here : is_at side port (Left r.d) ≡ true = rw (r.side_is, r.port_is, same_self side) (eq-eqb port port refl) in
    ap (is_at side port) r.is ∙ here

module _ (t : Rows) (arrivals : List Arrival) (events : List Event)
    (side : Side) (port : ℕ) (lawful : IsLawfulSwitch t) (timed : AreTimed arrivals)
    (low : 1 ≤ port) (high : port ≤ 24) (are : AreEvents t arrivals events) where
  at-own : (e : Event) → IsAmong e (filter (is_at side port) events)
      → IsAmong e (departures_of side port (turns_at t side port arrivals))
  at-own e h = by (is-either t arrivals e (are.own e (filter-own (is_at side port) e events h).0))
    where
      here : is_at side port e ≡ true
      here = (filter-own (is_at side port) e events h).1

      by : IsAmong e (admissions t arrivals)
          ⊎ ((other : Side) × IsAmong e (departures t other arrivals))
          → IsAmong e (departures_of side port (turns_at t side port arrivals))
      by (inl came) = absurd (let none = came-is t side port arrivals e came in cc (none, here))
      by (inr left) =
          let at = at-port-of t left.0 arrivals e left.1 in
          let r = turn-of left.0 at.port (turns_at t left.0 at.port arrivals) e at.among in
          let passes : is_at side port (Left r.d) ≡ true = sym (ap (is_at side port) r.is) ∙ here in
          let parts = and_parts (is_side side r.d.side) (r.d.port == port) passes in
          let same_side : left.0 ≡ side = sym r.side_is ∙ sym (is_side-same side r.d.side parts.0) in
          let same_port : at.port ≡ port = sym r.port_is ∙ eqb-true r.d.port port parts.1 in
          subst (λ s. IsAmong e (departures_of s port (turns_at t s port arrivals))) same_side
          (subst (λ n. IsAmong e (departures_of left.0 n (turns_at t left.0 n arrivals)))
          same_port at.among)

  at-all : (e : Event) → IsAmong e (departures_of side port (turns_at t side port arrivals))
      → IsAmong e (filter (is_at side port) events)
  at-all e h = filter-all (is_at side port) e events
      (are.all e (is-departure t side arrivals port e low high h))
      (turn-is-at side port (turns_at t side port arrivals) e h)

  -- those at a port are its turns
  pub at-port-are : filter (is_at side port) events ≡ departures_of side port (turns_at t side port arrivals)
  at-port-are = same_events
      (λ e. IsAmong e (departures_of side port (turns_at t side port arrivals)))
      (filter (is_at side port) events) (departures_of side port (turns_at t side port arrivals))
      (record { in_order = filter-order (is_at side port) events are.in_order; own = at-own; all = at-all })
      (record {
        in_order = departures-ordered side port (byte_ns_at t port)
            (entries_at t side port arrivals) (turns_at t side port arrivals)
            (byte-time t port lawful) (its-turns t side port arrivals timed).each_next;
        own = λ e h. h;
        all = λ e h. h;
      })

-- ---- what they bring

pub turns-back : (side : Side) (port : ℕ) (turns : List (Turn HeldFrame))
    → turns_in (departures_of side port turns) ≡ turns
turns-back side port [] = refl
turns-back side port (s ∷ earlier) = ap (λ ts. s ∷ ts) (turns-back side port earlier)

from-is : (a b : Side) → is_side a b ≡ is_side b a
from-is A A = refl
from-is A B = refl
from-is B A = refl
from-is B B = refl

and-false : (a : Bool) → (a && false) ≡ false
and-false true = refl
and-false false = refl

and-true : (a : Bool) → (a && true) ≡ a
and-true true = refl
and-true false = refl

pub brought-by-side : (side : Side) (port : ℕ) (events : List Event)
    → filter (is_from side) (brought_by port events)
    ≡ map (brought side) (slots (turns_in (filter (is_at side port) events)))
unfolding brought_by
brought-by-side side port [] = refl
brought-by-side side port (Came c ∷ before) = brought-by-side side port before
brought-by-side side port (Left d ∷ before) =
    by (d.port == port) (is_side side d.side) d.turn.too_old refl refl refl
    (brought-by-side side port before)
  where
    at-turns : (b : Bool) → is_at side port (Left d) ≡ b
        → turns_in (filter (is_at side port) (Left d ∷ before))
        ≡ (if b then d.turn ∷ turns_in (filter (is_at side port) before) else turns_in
        (filter (is_at side port) before))
    at-turns true is = ap (λ b.
        turns_in (if b then Left d ∷ filter (is_at side port) before else filter (is_at side port)
        before)) is
    at-turns false is = ap (λ b.
        turns_in (if b then Left d ∷ filter (is_at side port) before else filter (is_at side port)
        before)) is

    by : (b c o : Bool) → (d.port == port) ≡ b → is_side side d.side ≡ c → d.turn.too_old ≡ o
        → filter (is_from side) (brought_by port before)
        ≡ map (brought side) (slots (turns_in (filter (is_at side port) before))) →
        filter (is_from side) (if (d.port == port) && not d.turn.too_old then brought d.side d.turn
        ∷ brought_by port before else brought_by port before)
        ≡ map (brought side) (slots (turns_in (filter (is_at side port) (Left d ∷ before))))
    by false c o other on old rest =
        let at : is_at side port (Left d) ≡ false = ap (λ b. is_side side d.side && b) other
        ∙ and-false (is_side side d.side) in
        ap (λ b. filter (is_from side)
        (if b && not d.turn.too_old then brought d.side d.turn
        ∷ brought_by port before else brought_by port before)) other ∙ rest
        ∙ sym (ap (λ zs. map (brought side) (slots zs)) (at-turns false at))
    by true false o here off old rest =
        let at : is_at side port (Left d) ≡ false = ap (λ b. b && (d.port == port)) off in
        let out : is_from side (brought d.side d.turn) ≡ false = from-is d.side side ∙ off in
        dropped (not d.turn.too_old) out
        ∙ rest ∙ sym (ap (λ zs. map (brought side) (slots zs)) (at-turns false at))
      where
        dropped : (b : Bool) → is_from side (brought d.side d.turn) ≡ false
            → filter (is_from side) (if (d.port == port) && b then brought d.side d.turn
            ∷ brought_by port before else brought_by port before)
            ≡ filter (is_from side) (brought_by port before)
        dropped b out = ap (λ e.
            filter (is_from side) (if e && b then brought d.side d.turn
            ∷ brought_by port before else brought_by port before)) here ∙ either b
          where
            either : (b : Bool) → filter (is_from side)
                (if b then brought d.side d.turn ∷ brought_by port before else brought_by port
                before) ≡ filter (is_from side) (brought_by port before)
            either true = ap (λ e. if e then brought d.side d.turn
                ∷ filter (is_from side) (brought_by port before) else filter (is_from side)
                (brought_by port before)) out
            either false = refl
    by true true true here on old rest =
        let at : is_at side port (Left d) ≡ true = rw (on, here) refl in
        ap (λ b. filter (is_from side)
        (if b then brought d.side d.turn ∷ brought_by port before else brought_by port before))
        (ap (λ o. (d.port == port) && not o) old ∙ and-false (d.port == port)) ∙ rest
        ∙ sym (ap (λ zs. map (brought side) (slots zs)) (at-turns true at)
        ∙ ap (λ o. map (brought side) (if not o then d.turn
        ∷ slots (turns_in (filter (is_at side port) before)) else slots
        (turns_in (filter (is_at side port) before)))) old)
    by true true false here on old rest =
        let at : is_at side port (Left d) ≡ true = rw (on, here) refl in
        let own : is_from side (brought d.side d.turn) ≡ true = from-is d.side side ∙ on in
        let side_is : d.side ≡ side = sym (is_side-same side d.side on) in
        ap (λ b. filter (is_from side)
        (if b then brought d.side d.turn ∷ brought_by port before else brought_by port before))
        (ap (λ o. (d.port == port) && not o) old ∙ and-true (d.port == port) ∙ here)
        ∙ ap (λ b. if b then brought d.side d.turn ∷ filter (is_from side) (brought_by port before)
        else filter (is_from side) (brought_by port before)) own
        ∙ ap (λ s. brought s d.turn ∷ filter (is_from side) (brought_by port before)) side_is
        ∙ ap (λ zs. brought side d.turn ∷ zs) rest
        ∙ sym (ap (λ zs. map (brought side) (slots zs)) (at-turns true at)
        ∙ ap (λ o. map (brought side) (if not o then d.turn
        ∷ slots (turns_in (filter (is_at side port) before)) else slots
        (turns_in (filter (is_at side port) before)))) old)

-- ---- in order

below-parts : (m n : ℕ) (ms ns : List ℕ) → is_below (m ∷ ms) (n ∷ ns) ≡ true
    → (m < n) ⊎ ((m ≡ n) × (is_below ms ns ≡ true))
below-parts m n ms ns h = elim (cases_lt m n) [
  | inl less ↦ inl less
  | inr ge ↦ elim (cases_lt n m) [
    | inl more ↦ absurd (let up = le-ltb m n ge in let down = lt-ltb n m more in let k : false
        ≡ true = rw (up, down) at h in cc k)
    | inr le ↦ (let up = le-ltb m n ge in let down = le-ltb n m le in (inr (omega (arith, ge, le), rw (up, down) at h)))
  ]
]

small : (side : Side) → side_number side ≤ 1
small A = omega arith
small B = omega arith

order-below : (m n p : ℕ) (a b : Side) (ms ns : List ℕ)
    → is_below (m ∷ p ∷ side_number a ∷ ms) (n ∷ p ∷ side_number b ∷ ns) ≡ true
    → 2 * m + side_number a ≤ 2 * n + side_number b
order-below m n p a b ms ns h = by (below-parts m n (p ∷ side_number a ∷ ms) (p ∷ side_number b ∷ ns) h)
  where
    by_side : (m ≡ n) → (side_number a < side_number b)
        ⊎ ((side_number a ≡ side_number b) × (is_below ms ns ≡ true))
        → 2 * m + side_number a ≤ 2 * n + side_number b
    by_side same (inl less) = omega (arith, same, less)
    by_side same (inr equal) = omega (arith, same, equal.0)

    by_phase : (m ≡ n) → (p < p)
        ⊎ ((p ≡ p) × (is_below (side_number a ∷ ms) (side_number b ∷ ns) ≡ true))
        → 2 * m + side_number a ≤ 2 * n + side_number b
    by_phase same (inl less) = absurd (omega (arith, less))
    by_phase same (inr rest) = by_side same (below-parts (side_number a) (side_number b) ms ns rest.1)

    by : (m < n) ⊎ ((m ≡ n) × (is_below (p ∷ side_number a ∷ ms) (p ∷ side_number b ∷ ns) ≡ true))
        → 2 * m + side_number a ≤ 2 * n + side_number b
    by (inl less) = let s = small a in omega (arith, less, s)
    by (inr same) = by_phase same.0 (below-parts p p (side_number a ∷ ms) (side_number b ∷ ns) same.1)

slot-before : (d x : Departure) → d.turn.too_old ≡ false → x.turn.too_old ≡ false
    → is_before (Left d) (Left x) ≡ true → order_of (brought d.side d.turn)
    ≤ order_of (brought x.side x.turn)
slot-before d x slot_d slot_x before =
    order-below d.turn.end x.turn.end 0 d.side x.side (d.port ∷ d.place ∷ []) (x.port ∷ x.place ∷ [])
    (subst (λ o. is_below (d.turn.end ∷ 0 ∷ side_number d.side ∷ d.port ∷ d.place ∷ [])
    (x.turn.end ∷ phase_of o ∷ side_number x.side ∷ x.port ∷ x.place ∷ []) ≡ true) slot_x
    (subst (λ o. is_below (d.turn.end ∷ phase_of o ∷ side_number d.side ∷ d.port ∷ d.place ∷ [])
    (key (Left x)) ≡ true) slot_d before))

not-true : (b : Bool) → not b ≡ true → b ≡ false
not-true true h = absurd (cc h)
not-true false h = refl

all-before : (port : ℕ) (x : Departure) (events : List Event) → x.turn.too_old ≡ false
    → AllByRecursion (λ d. IsTrue (is_before d (Left x))) events
    → AllByRecursion (λ y. order_of y ≤ order_of (brought x.side x.turn)) (brought_by port events)
unfolding brought_by
all-before port x [] slot all = tt
all-before port x (Came c ∷ before) slot all = all-before port x before slot all.1
all-before port x (Left d ∷ before) slot all =
    by ((d.port == port) && not d.turn.too_old) refl (all-before port x before slot all.1)
  where
    by : (b : Bool) → ((d.port == port) && not d.turn.too_old) ≡ b
        → AllByRecursion (λ y. order_of y ≤ order_of (brought x.side x.turn)) (brought_by port before) →
        AllByRecursion (λ y. order_of y ≤ order_of (brought x.side x.turn))
        (if b then brought d.side d.turn ∷ brought_by port before else brought_by port before)
    by true is rest = (
      slot-before d x
          (not-true d.turn.too_old (and_parts (d.port == port) (not d.turn.too_old) is).1) slot all.0,
      rest,
    )
    by false is rest = rest

pub brought-in-order : (port : ℕ) (events : List Event) → AreInOrder events → ComeInOrder (brought_by port events)
unfolding brought_by
brought-in-order port [] order = tt
brought-in-order port (Came c ∷ before) order = brought-in-order port before order.1
brought-in-order port (Left d ∷ before) order =
    by ((d.port == port) && not d.turn.too_old) refl (brought-in-order port before order.1)
  where
    by : (b : Bool) → ((d.port == port) && not d.turn.too_old) ≡ b
        → ComeInOrder (brought_by port before)
        → ComeInOrder (if b then brought d.side d.turn ∷ brought_by port before else brought_by port
        before)
    by true is rest = (
      all-before port d before
          (not-true d.turn.too_old (and_parts (d.port == port) (not d.turn.too_old) is).1) order.0,
      rest,
    )
    by false is rest = rest

pub events-bring : (t : Rows) (arrivals : List Arrival) (events : List Event)
    (port : ℕ) → IsLawfulSwitch t → AreTimed arrivals → 1 ≤ port → port ≤ 24
    → AreEvents t arrivals events → AreReceptions t port arrivals (brought_by port events)
events-bring t arrivals events port lawful timed low high are = record {
  by_side = λ side. brought-by-side side port events
      ∙ ap (λ es. map (brought side) (slots (turns_in es)))
      (at-port-are t arrivals events side port lawful timed low high are)
      ∙ ap (λ ts. map (brought side) (slots ts)) (turns-back side port (turns_at t side port arrivals));
  in_order = brought-in-order port events are.in_order;
}

-- ---- the promises of events

-- an admission is that of an arrival after those before it
pub record IsAdmission (t : Rows) (arrivals : List Arrival) (c : Admission) : Type 0 where
  pub later : List Arrival
  pub past : List Arrival
  pub came : arrivals ≡ later ++ c.arrival ∷ past
  pub is : c ≡ admission_after t past c.arrival

admission-of : (t : Rows) (arrivals : List Arrival) (c : Admission)
    → IsAmong (Came c) (admissions t arrivals) → IsAdmission t arrivals c
unfolding admissions
admission-of t [] c h = absurd h
admission-of t (x ∷ past) c (inl same) =
    let is : c ≡ admission_after t past x = cc same in
    let own : c.arrival ≡ x = ap (λ (a : Admission). a.arrival) is in
    record {
      later = [];
      past = past;
      came = ap (λ a. a ∷ past) (sym own);
      is = is
          ∙ ap (admission_after t past) (sym own);
    }
admission-of t (x ∷ past) c (inr rest) = let a = admission-of t past c rest in
    record { later = x ∷ a.later; past = a.past; came = ap (λ zs. x ∷ zs) a.came; is = a.is }

pub came-of : (t : Rows) (arrivals : List Arrival) (c : Admission)
    → IsAmong (Came c) (all_events t arrivals) → IsAdmission t arrivals c
came-of t arrivals c among = by (is-either t arrivals (Came c) among)
  where
    by : IsAmong (Came c) (admissions t arrivals)
        ⊎ ((side : Side) × IsAmong (Came c) (departures t side arrivals)) → IsAdmission t arrivals c
    by (inl own) = admission-of t arrivals c own
    by (inr left) =
        let at = at-port-of t left.0 arrivals (Came c) left.1 in
        let r = turn-of left.0 at.port (turns_at t left.0 at.port arrivals) (Came c) at.among in
        absurd (let is = r.is in cc is)

none-lost : (p : ℕ → Bool) (ports : List ℕ) → ((port : ℕ) → p port ≡ false) → filter p ports ≡ []
none-lost p [] none = refl
none-lost p (port ∷ ports) none = ap (λ b. if b then port ∷ filter p ports else filter p ports)
    (none port) ∙ none-lost p ports none

lost-nowhere : (t : Rows) (past : List Arrival) (x : Arrival)
    → ((port : ℕ) → is_lost_at t past x port ≡ false) → lost_ports t past x ≡ []
unfolding lost_ports
lost-nowhere t past x none = none-lost (is_lost_at t past x) numbers none

promised : (t : Rows) (arrivals : List Arrival) (c : Admission) → IsAdmittedRun t arrivals
    → IsAdmission t arrivals c → IsAsPromised t arrivals c
promised t arrivals c run a =
    let judged = judged-alone t a.past c.arrival (run-from t arrivals a.later (c.arrival ∷ a.past) a.came run) in
    record {
      later = a.later;
      past = a.past;
      came = a.came;
      is = a.is;
      judged = judged;
      lost = ap (λ (d : Admission). d.lost) a.is ∙ lost-nowhere t a.past c.arrival judged.kept;
    }

one-in-time : (t : Rows) (arrivals : List Arrival) (side : Side) (port : ℕ) (d : Departure)
    (turns : List (Turn HeldFrame)) → IsAdmittedRun t arrivals
    → AreTurns (byte_ns_at t port) (entries_at t side port arrivals) turns →
    IsAmong (Left d) (departures_of side port turns) → IsInTime t d.turn
one-in-time t arrivals side port d [] run are h = absurd h
one-in-time t arrivals side port d (s ∷ earlier) run are (inl same) =
    let is : d ≡ departure_with side port (length earlier) s = cc same in
    subst (IsInTime t) (sym (ap (λ (e : Departure). e.turn) is)) (turn-in-time t arrivals side port s earlier run are)
one-in-time t arrivals side port d (s ∷ earlier) run are (inr rest) =
    one-in-time t arrivals side port d earlier run are.1 rest

pub taken-in : (side : Side) (port : ℕ) (events : List Event) → taken_at port (turns_on side events)
    ≡ turns_in (filter (is_at side port) events)
unfolding taken_at
taken-in side port [] = refl
taken-in side port (Came c ∷ before) = taken-in side port before
taken-in side port (Left d ∷ before) = by (is_side side d.side) (d.port == port) refl refl (taken-in side port before)
  where
    by : (b c : Bool) → is_side side d.side ≡ b → (d.port == port) ≡ c
        → taken_at port (turns_on side before) ≡ turns_in (filter (is_at side port) before) →
        taken_at port (if is_side side d.side then record { port = d.port; turn = d.turn }
        ∷ turns_on side before else turns_on side before)
        ≡ turns_in (if is_side side d.side && (d.port == port) then Left d
        ∷ filter (is_at side port) before else filter (is_at side port) before)
    by false c off here rest = rw off rest
    by true false on other rest = rw (on, other) rest
    by true true on here rest = rw (on, here) (ap (λ ts. d.turn ∷ ts) rest)

pub no-left : (t : Rows) (arrivals : List Arrival) (d : Departure) → IsAmong (Left d) (admissions t arrivals) → ⊥
unfolding admissions
no-left t [] d h = h
no-left t (x ∷ past) d (inl same) = cc same
no-left t (x ∷ past) d (inr rest) = no-left t past d rest

-- what has left a port are its turns
pub taken-at-port : (t : Rows) (arrivals : List Arrival) (events : List Event)
    (side : Side) (port : ℕ) → IsLawfulSwitch t → AreTimed arrivals → 1 ≤ port → port ≤ 24
    → AreEvents t arrivals events → taken_at port (turns_on side events) ≡ turns_at t side port arrivals
taken-at-port t arrivals events side port lawful timed low high are =
    taken-in side port events
    ∙ ap turns_in (at-port-are t arrivals events side port lawful timed low high are)
    ∙ turns-back side port (turns_at t side port arrivals)

pub as-promised : EventsAreAsPromised
as-promised t arrivals events run are = record {
  admissions = admitted;
  departures = in_time;
  turns = λ side port low high.
      taken-at-port t arrivals events side port run.lawful run.timed low high are;
  receptions = λ port low high. events-bring t arrivals events port run.lawful run.timed low high are;
}
  where
    admitted : (c : Admission) → IsAmong (Came c) events → IsAsPromised t arrivals c
    admitted c h = promised t arrivals c run (came-of t arrivals c (are.own (Came c) h))

    left-of : (d : Departure) → IsAmong (Left d) (admissions t arrivals)
        ⊎ ((side : Side) × IsAmong (Left d) (departures t side arrivals)) → IsInTime t d.turn
    left-of d (inl own) = absurd (no-left t arrivals d own)
    left-of d (inr left) =
        let at = at-port-of t left.0 arrivals (Left d) left.1 in
        one-in-time t arrivals left.0 at.port d (turns_at t left.0 at.port arrivals) run
        (its-turns t left.0 at.port arrivals run.timed).each_next at.among

    in_time : (d : Departure) → IsAmong (Left d) events → IsInTime t d.turn
    in_time d h = left-of d (is-either t arrivals (Left d) (are.own (Left d) h))

-- ---- so far

-- if an event passes, so do those before it: then those that pass are the first ones
firsts : (p : Event → Bool) (es : List Event) → AreInOrder es
    → ((d e : Event) → is_before d e ≡ true → p e ≡ true → p d ≡ true) → (later : List Event)
    × (es ≡ later ++ filter p es)
firsts p [] order down = ([], refl)
firsts p (e ∷ before) order down = by (p e) refl (firsts p before order.1 down)
  where
    all-pass : (ds : List Event) → p e ≡ true → AllByRecursion (λ d. IsTrue (is_before d e)) ds → filter p ds ≡ ds
    all-pass [] passes all = refl
    all-pass (d ∷ ds) passes all =
        ap (λ b. if b then d ∷ filter p ds else filter p ds) (down d e all.0 passes)
        ∙ ap (λ zs. d ∷ zs) (all-pass ds passes all.1)

    by : (b : Bool) → p e ≡ b → (later : List Event) × (before ≡ later ++ filter p before)
        → (later : List Event) × (e ∷ before
        ≡ later ++ (if b then e ∷ filter p before else filter p before))
    by true passes rest = ([], ap (λ zs. e ∷ zs) (sym (all-pass before passes order.0)))
    by false fails rest = (e ∷ rest.0, ap (λ zs. e ∷ zs) rest.1)

told-down : (arrivals : List Arrival) (d e : Event) → is_before d e ≡ true
    → is_told_by arrivals e ≡ true → is_told_by arrivals d ≡ true
told-down [] d e before told = absurd (cc told)
told-down (x ∷ past) d e before told = by (is_below (x.time ∷ 1 ∷ length past ∷ []) (key d)) refl
  where
    by : (b : Bool) → is_below (x.time ∷ 1 ∷ length past ∷ []) (key d) ≡ b → not b ≡ true
    by false is = refl
    by true is = absurd (let up = below_trans (x.time ∷ 1 ∷ length past ∷ []) (key d) (key e) is
        before in let down = not-true (is_below (x.time ∷ 1 ∷ length past ∷ []) (key e)) told in
        cc (up, down))

pub turns-more : (xs ys : List Event) → turns_in (xs ++ ys) ≡ turns_in xs ++ turns_in ys
turns-more [] ys = refl
turns-more (Came c ∷ xs) ys = turns-more xs ys
turns-more (Left d ∷ xs) ys = ap (λ ts. d.turn ∷ ts) (turns-more xs ys)

pub so-far-is : (t : Rows) (arrivals : List Arrival) (events : List Event)
    → AreEventsSoFar t arrivals events → (later : List Event) × (events_of t arrivals ≡ later ++ events)
unfolding events_so_far
so-far-is t arrivals events are =
    let first = firsts (is_told_by arrivals) (events_of t arrivals) (are-events t arrivals).in_order
    (told-down arrivals) in
    (first.0, first.1 ∙ ap (λ es. first.0 ++ es) (sym (one-order-so-far t arrivals events are)))

-- what has left a port is the beginning of its turns
pub taken-so-far : (t : Rows) (arrivals : List Arrival)
    (events : List Event) (side : Side) (port : ℕ)
    → IsLawfulSwitch t → AreTimed arrivals → 1 ≤ port → port ≤ 24 → AreEventsSoFar t arrivals events →
    (later : List (Turn HeldFrame)) × (turns_at t side port arrivals ≡ later ++ taken_at port (turns_on side events))
taken-so-far t arrivals events side port lawful timed low high are =
    let more = so-far-is t arrivals events are in (
      turns_in (filter (is_at side port) more.0),
      sym (ap turns_in (at-port-are t arrivals (events_of t arrivals) side port lawful timed low
          high (are-events t arrivals)) ∙ turns-back side port (turns_at t side port arrivals))
          ∙ ap (λ es. turns_in (filter (is_at side port) es)) more.1
          ∙ ap turns_in (filter-append (is_at side port) more.0 events)
          ∙ turns-more (filter (is_at side port) more.0) (filter (is_at side port) events)
          ∙ ap (λ ts. turns_in (filter (is_at side port) more.0) ++ ts) (sym (taken-in side port events)),
    )

pub so-far-promised : EventsSoFarAreAsPromised
so-far-promised t arrivals events run are =
    let all = as-promised t arrivals (events_of t arrivals) run (are-events t arrivals) in
    record {
      admissions = λ c h. all.admissions c ((are-events t arrivals).all (Came c) (are.own (Came c) h).0);
      departures = λ d h. all.departures d ((are-events t arrivals).all (Left d) (are.own (Left d) h).0);
      frames = λ side port place l low high at.
          (let more = taken-so-far t arrivals events side port run.lawful run.timed low high are in (
            frames_left l.vl more.0,
            sym (left-are-accepted t arrivals side port place l run at) ∙ ap (frames_left l.vl) more.1
                ∙ frames-more l.vl more.0 (taken_at port (turns_on side events)),
          ));
    }
