-- The events that the switches of both sides stand for are the first of all events of their arrivals.
use Rattle.std.proofs.Common.{◌≡◌, ℕ, zero, suc, ◌<◌, ◌≤◌, List, [], ◌∷◌, ◌++◌, length, refl, ap}
use Rattle.std.proofs.Common.{sym, subst, true, not, IsTrue, arith, ◌⊎◌, inl, inr}
use Rattle.std.proofs.lemmas.Grind.{common_steps}
use Rattle.std.specs.List.{AllByRecursion}
use Rattle.afdx_frame.specs.declared.link.Side.{Side}
use Rattle.afdx_frame.specs.declared.link.Side.TheVariants.{A, B}
use Rattle.afdx_frame.proofs.ListLemmas.{slice_get-within}
use Rattle.afdx_config.specs.Rows.{Rows}
use Rattle.afdx_port.specs.Schedule.{Turn, AreTurns}
use Rattle.afdx_port.specs.ScheduleOf.{AreInOrder as AreTimed}
use Rattle.afdx_port.proofs.ScheduleLemmas.{schedule_of_is}
use Rattle.afdx_port.proofs.TurnLemmas.{next_of, schedule_begins, same_schedule}
use Rattle.afdx_law_bounds.proofs.TableLemmas.{byte-time}
use Rattle.afdx_switch.specs.HeldFrames.{HeldFrame}
use Rattle.afdx_switch.specs.Switching as switch
use Rattle.afdx_switch.specs.Switching.{SwitchHistory, IsDone, taken_at}
use Rattle.afdx_switch.specs.Tables.{byte_ns_at, entries_at}
use Rattle.afdx_switch.specs.declared.switch_state.SwitchState.{SwitchState}
use Rattle.afdx_switch.proofs.LawLemmas.{taken-turns}
use Rattle.afdx_network.specs.Events.{Event, Came, Left, turns_at, departures_of, all_events}
use Rattle.afdx_network.specs.Events.{arrivals_in, turns_on, calls_on}
use Rattle.afdx_network.specs.Order.{key, is_below, is_before, IsAmong, AreEvents, AreEventsSoFar}
use Rattle.afdx_network.specs.Order.{AreFirst, IsAtArrival}
use Rattle.afdx_network.specs.Network.{EachFollows, departure_after, StandsFor}
use Rattle.afdx_network.specs.declared.network.Network.{Network}
use Rattle.afdx_network.proofs.OrderLemmas.{below_self, below_back, before_trans, all_among, all_from}
use Rattle.afdx_network.proofs.EventLemmas.{at-port-of, is-departure, is-admission, is-either}
use Rattle.afdx_network.proofs.EventLemmas.{came-all, came-own, left-all, left-own}
use Rattle.afdx_network.proofs.TurnLemmas.{IsLater, split-later, join-later, later-after}

entries-timed : (t : Rows) (side : Side) (w : SwitchState) (h : SwitchHistory) (port : ℕ)
    → switch.StandsFor t side w h → 1 ≤ port → port ≤ 24 → AreTimed (entries_at t side port h.arrivals)
entries-timed t side w h zero st low high = absurd (omega (arith, low))
entries-timed t side w h (suc i) st low high =
    let p = slice_get-within w.ports.items i (omega (arith, st.port_count, high)) in
    subst (λ k. AreTimed (entries_at t side k h.arrivals)) (omega arith) (st.ports i p.0 p.1).in_order

-- the turns of a port are those that were taken, and later ones
record Splits (t : Rows) (events : List Event) (side : Side) (port : ℕ) : Type 0 where
  more : List (Turn HeldFrame)
  is : turns_at t side port (arrivals_in events) ≡ more ++ taken_at port (turns_on side events)
  are : AreTurns (byte_ns_at t port) (entries_at t side port (arrivals_in events))
      (more ++ taken_at port (turns_on side events))

splits-on : (t : Rows) (side : Side) (w : SwitchState) (events : List Event) (time port : ℕ)
    → switch.StandsFor t side w (calls_on side events time) → 1 ≤ port → port ≤ 24
    → Splits t events side port
unfolding turns_at
splits-on t side w events time port st low high =
    let all = schedule_of_is (byte_ns_at t port) (entries_at t side port (arrivals_in events))
    (entries-timed t side w (calls_on side events time) port st low high) in
    let r = schedule_begins (byte_ns_at t port) (entries_at t side port (arrivals_in events)) _ _
    all (taken-turns t side w (calls_on side events time) port st low high) in
    record {
      more = r.0;
      is = r.1;
      are = subst (λ ts. AreTurns (byte_ns_at t port)
          (entries_at t side port (arrivals_in events)) ts) r.1 all.each_next;
    }

done-on : (t : Rows) (side : Side) (w : SwitchState) (events : List Event) (time port : ℕ)
    → switch.StandsFor t side w (calls_on side events time) → 1 ≤ port → port ≤ 24
    → IsDone t side (calls_on side events time) port →
    turns_at t side port (arrivals_in events) ≡ taken_at port (turns_on side events)
unfolding turns_at
done-on t side w events time port st low high done =
    same_schedule (byte_ns_at t port) (entries_at t side port (arrivals_in events)) _ _
    (schedule_of_is (byte_ns_at t port) (entries_at t side port (arrivals_in events))
    (entries-timed t side w (calls_on side events time) port st low high)) done

some-later : (side : Side) (port : ℕ) (e : Event) (more turns : List (Turn HeldFrame))
    → IsLater side port e more turns → 0 < length more
some-later side port e [] turns h = absurd h
some-later side port e (x ∷ more) turns h = omega arith

module _ (t : Rows) (n : Network) (events : List Event) (st : StandsFor t n events) where
  splits : (side : Side) (port : ℕ) → 1 ≤ port → port ≤ 24 → Splits t events side port
  splits A port low high = splits-on t A n.switches.a events (switch.last_time n.switches.a) port st.on_a low high
  splits B port low high = splits-on t B n.switches.b events (switch.last_time n.switches.b) port st.on_b low high

  own : (e : Event) → IsAmong e events → IsAmong e (all_events t (arrivals_in events))
  own (Came c) among = is-admission t (arrivals_in events) (Came c) (came-own t events st.follows c among)
  own (Left d) among =
      let o = left-own t events st.follows d among in
      let s = splits d.side d.port o.low o.high in
      is-departure t d.side (arrivals_in events) d.port (Left d) o.low o.high
      (subst (λ ts. IsAmong (Left d) (departures_of d.side d.port ts)) (sym s.is)
      (join-later d.side d.port (Left d) s.more (taken_at d.port (turns_on d.side events)) o.among))

  late : (side : Side) (port : ℕ) (s : Splits t events side port) → 1 ≤ port → port ≤ 24
      → (e : Event) → IsLater side port e s.more (taken_at port (turns_on side events))
      → AllByRecursion (λ d. IsTrue (is_before d e)) events
  late side port s low high e later =
      let n = next_of (byte_ns_at t port) (entries_at t side port (arrivals_in events)) s.more
      (taken_at port (turns_on side events)) s.are
      (some-later side port e s.more (taken_at port (turns_on side events)) later) in
      let after = later-after side port (byte_ns_at t port)
      (entries_at t side port (arrivals_in events)) s.more
      (taken_at port (turns_on side events)) (byte-time t port st.lawful) s.are n.0 n.1 e later in
      all_from (λ d. IsTrue (is_before d e)) events (λ d among.
      let before = st.next side port n.0 low high n.1 d among in
      elim after [
        | inl same ↦ subst (λ z. is_before d z ≡ true) (sym same) before
        | inr up ↦ before_trans d (Left (departure_after events side port n.0)) e before up
      ])

  rest : (e : Event) → IsAmong e (all_events t (arrivals_in events)) → IsAmong e events
      ⊎ AllByRecursion (λ d. IsTrue (is_before d e)) events
  rest e among = elim (is-either t (arrivals_in events) e among) [
    | inl admission ↦ inl (came-all t events st.follows e admission)
    | inr departure ↦
        (let p = at-port-of t departure.0 (arrivals_in events) e departure.1 in
        let s = splits departure.0 p.port p.low p.high in
        elim (split-later departure.0 p.port e s.more
        (taken_at p.port (turns_on departure.0 events))
        (subst (λ ts. IsAmong e (departures_of departure.0 p.port ts)) s.is p.among)) [
          | inl early ↦ inl (left-all t events st.follows departure.0 p.port e early)
          | inr later ↦ inr (late departure.0 p.port s p.low p.high e later)
        ])
  ]

  pub are-first : AreFirst t events
  are-first = record { in_order = st.in_order; own = own; rest = rest }

  -- where each port has given all its turns, these are all events
  pub are-all : ((port : ℕ) → 1 ≤ port → port ≤ 24
      → IsDone t A (calls_on A events (switch.last_time n.switches.a)) port)
      → ((port : ℕ) → 1 ≤ port → port ≤ 24 → IsDone t B (calls_on B events (switch.last_time n.switches.b)) port) →
      AreEvents t (arrivals_in events) events
  are-all done_a done_b = record { in_order = st.in_order; own = own; all = all }
    where
      turns-are : (side : Side) (port : ℕ) → 1 ≤ port → port ≤ 24
          → turns_at t side port (arrivals_in events) ≡ taken_at port (turns_on side events)
      turns-are A port low high = done-on t A n.switches.a events (switch.last_time n.switches.a) port st.on_a low
          high (done_a port low high)
      turns-are B port low high = done-on t B n.switches.b events (switch.last_time n.switches.b) port st.on_b low
          high (done_b port low high)

      all : (e : Event) → IsAmong e (all_events t (arrivals_in events)) → IsAmong e events
      all e among = elim (is-either t (arrivals_in events) e among) [
        | inl admission ↦ came-all t events st.follows e admission
        | inr departure ↦
            (let p = at-port-of t departure.0 (arrivals_in events) e departure.1 in
            left-all t events st.follows departure.0 p.port e
            (subst (λ ts. IsAmong e (departures_of departure.0 p.port ts))
            (turns-are departure.0 p.port p.low p.high) p.among))
      ]

-- of the first events, of which the last is an arrival, none is left out up to it. Its place is the
-- count of the arrivals before it
pub so-far : (t : Rows) (events : List Event) → EachFollows t events → AreFirst t events
    → IsAtArrival events → AreEventsSoFar t (arrivals_in events) events
so-far t [] f h at = record {
  in_order = tt;
  own = λ e among. absurd among;
  all = λ e meant. absurd (cc meant.1);
}
so-far t (Left d ∷ before) f h at = absurd at
so-far t (Came c ∷ before) f h at = record {
  in_order = h.in_order;
  own = λ e among. (h.own e among, told e among);
  all = λ e meant. elim (h.rest e meant.0) [
    | inl among ↦ among
    | inr after ↦ absurd (
        let below : is_below (key (Came c)) (key e) ≡ true = after.0 in
        let above : not (is_below (c.arrival.time ∷ 1 ∷ length (arrivals_in before) ∷ []) (key e)) ≡ true = meant.1 in
        let same : not (is_below (key (Came c)) (key e)) ≡ true =
        subst (λ k. not (is_below (c.arrival.time ∷ 1 ∷ k ∷ []) (key e)) ≡ true) (sym place) above in
        grind (arith, common_steps, below, same))
  ];
}
  where
    place : c.place ≡ length (arrivals_in before)
    place = ap (λ a. a.place) f.0

    not-below : (e : Event) → IsAmong e (Came c ∷ before) → not (is_below (key (Came c)) (key e)) ≡ true
    not-below e (inl same) = rw (same, below_self (key (Came c))) refl
    not-below e (inr earlier) =
        let below : is_below (key e) (key (Came c)) ≡ true =
        all_among (λ d. IsTrue (is_before d (Came c))) e before h.in_order.0 earlier in
        rw (below_back (key e) (key (Came c)) below) refl

    told : (e : Event) → IsAmong e (Came c ∷ before)
        → not (is_below (c.arrival.time ∷ 1 ∷ length (arrivals_in before) ∷ []) (key e)) ≡ true
    told e among = subst (λ k. not (is_below (c.arrival.time ∷ 1 ∷ k ∷ []) (key e)) ≡ true) place (not-below e among)
