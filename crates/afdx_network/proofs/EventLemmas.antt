-- Which events are among all events of some arrivals.
use Rattle.std.proofs.Common.{◌≡◌, ℕ, zero, suc, ◌<◌, ◌≤◌, List, [], ◌∷◌, ◌++◌, length, refl, ap}
use Rattle.std.proofs.Common.{sym, ◌∙◌, subst, true, false, arith, ◌⊎◌, inl, inr, if◌then◌else◌}
use Rattle.std.proofs.lemmas.Bool.{cases_eq, ne_eqb}
use Rattle.afdx_frame.specs.declared.link.Side.{Side}
use Rattle.afdx_frame.specs.declared.link.Side.TheVariants.{A, B}
use Rattle.afdx_config.specs.Rows.{Rows}
use Rattle.afdx_police.specs.Arrival.{Arrival, is_side}
use Rattle.afdx_port.specs.Schedule.{Turn}
use Rattle.afdx_port.proofs.TurnLemmas.{eqb-same}
use Rattle.afdx_switch.specs.HeldFrames.{HeldFrame}
use Rattle.afdx_switch.specs.Switching.{PortTurn, taken_at}
use Rattle.afdx_switch.proofs.ArrivalLemmas.{same-side}
use Rattle.afdx_network.specs.Events.{Event, Came, Left, Admission, Departure, departure_with}
use Rattle.afdx_network.specs.Events.{admissions, turns_at, departures_of, departures_below}
use Rattle.afdx_network.specs.Events.{departures, all_events, arrivals_in, turns_on}
use Rattle.afdx_network.specs.Order.{IsAmong}
use Rattle.afdx_network.specs.Network.{EachFollows}
use Rattle.afdx_network.proofs.OrderLemmas.{among_left, among_right, among_either}

-- an event that is a turn of a port
pub record IsTurnOf (side : Side) (port : ℕ) (turns : List (Turn HeldFrame)) (e : Event) : Type 0 where
  pub d : Departure
  pub is : e ≡ Left d
  pub side_is : d.side ≡ side
  pub port_is : d.port ≡ port
  pub below : d.place < length turns

pub turn-of : (side : Side) (port : ℕ) (turns : List (Turn HeldFrame)) (e : Event)
    → IsAmong e (departures_of side port turns) → IsTurnOf side port turns e
turn-of side port [] e h = absurd h
turn-of side port (s ∷ earlier) e (inl same) =
    record {
      d = departure_with side port (length earlier) s;
      is = same;
      side_is = refl;
      port_is = refl;
      below = omega arith;
    }
turn-of side port (s ∷ earlier) e (inr later) =
    let r = turn-of side port earlier e later in
    record { d = r.d; is = r.is; side_is = r.side_is; port_is = r.port_is; below = omega (arith, r.below) }

-- the port of an event among the departures of a side
pub record IsAtPort (t : Rows) (side : Side) (arrivals : List Arrival) (count : ℕ) (e : Event) : Type 0 where
  pub port : ℕ
  pub low : 1 ≤ port
  pub high : port ≤ count
  pub among : IsAmong e (departures_of side port (turns_at t side port arrivals))

pub at-port : (t : Rows) (side : Side) (arrivals : List Arrival) (count : ℕ) (e : Event)
    → IsAmong e (departures_below t side arrivals count) → IsAtPort t side arrivals count e
unfolding departures_below
at-port t side arrivals zero e h = absurd h
at-port t side arrivals (suc count) e h =
    elim (among_either e (departures_of side (suc count) (turns_at t side (suc count) arrivals))
    (departures_below t side arrivals count) h) [
      | inl here ↦ record { port = suc count; low = omega arith; high = omega arith; among = here }
      | inr below ↦ (let r = at-port t side arrivals count e below in
          record { port = r.port; low = r.low; high = omega (arith, r.high); among = r.among })
    ]

pub from-port : (t : Rows) (side : Side) (arrivals : List Arrival) (count port : ℕ) (e : Event)
    → 1 ≤ port → port ≤ count → IsAmong e (departures_of side port (turns_at t side port arrivals)) →
    IsAmong e (departures_below t side arrivals count)
unfolding departures_below
from-port t side arrivals zero port e low high h = absurd (omega (arith, low, high))
from-port t side arrivals (suc count) port e low high h =
    elim (cases_eq port (suc count)) [
      | inl same ↦ among_left e
          (departures_of side (suc count) (turns_at t side (suc count) arrivals))
          (departures_below t side arrivals count)
          (subst (λ k. IsAmong e (departures_of side k (turns_at t side k arrivals))) same h)
      | inr other ↦ among_right e
          (departures_of side (suc count) (turns_at t side (suc count) arrivals))
          (departures_below t side arrivals count)
          (from-port t side arrivals count port e low (omega (arith, high, other)) h)
    ]

pub at-port-of : (t : Rows) (side : Side) (arrivals : List Arrival) (e : Event)
    → IsAmong e (departures t side arrivals) → IsAtPort t side arrivals 24 e
unfolding departures
at-port-of t side arrivals e h = at-port t side arrivals 24 e h

-- an event among all of them is an admission or a departure of a side
pub is-departure : (t : Rows) (side : Side) (arrivals : List Arrival) (port : ℕ) (e : Event)
    → 1 ≤ port → port ≤ 24 → IsAmong e (departures_of side port (turns_at t side port arrivals)) →
    IsAmong e (all_events t arrivals)
unfolding all_events departures
is-departure t A arrivals port e low high h =
    among_right e (admissions t arrivals) (departures t A arrivals ++ departures t B arrivals)
    (among_left e (departures t A arrivals) (departures t B arrivals) (from-port t A arrivals 24 port e low high h))
is-departure t B arrivals port e low high h =
    among_right e (admissions t arrivals) (departures t A arrivals ++ departures t B arrivals)
    (among_right e (departures t A arrivals) (departures t B arrivals) (from-port t B arrivals 24 port e low high h))

pub is-admission : (t : Rows) (arrivals : List Arrival) (e : Event)
    → IsAmong e (admissions t arrivals) → IsAmong e (all_events t arrivals)
unfolding all_events
is-admission t arrivals e h =
    among_left e (admissions t arrivals) (departures t A arrivals ++ departures t B arrivals) h

pub is-either : (t : Rows) (arrivals : List Arrival) (e : Event) → IsAmong e (all_events t arrivals)
    → IsAmong e (admissions t arrivals) ⊎ ((side : Side) × IsAmong e (departures t side arrivals))
unfolding all_events
is-either t arrivals e h =
    elim (among_either e (admissions t arrivals) (departures t A arrivals ++ departures t B arrivals) h) [
      | inl admission ↦ inl admission
      | inr departure ↦ elim (among_either e (departures t A arrivals) (departures t B arrivals)
          departure) [ inl a ↦ inr (A, a) | inr b ↦ inr (B, b) ]
    ]

pub sides : (a b : Side) → (a ≡ b) ⊎ ((is_side a b ≡ false) × (a ≡ b → ⊥))
sides A A = inl refl
sides A B = inr (refl, λ same. cc)
sides B A = inr (refl, λ same. cc)
sides B B = inl refl

-- the port of a departure, or another one
pub ports-same : (side : Side) (port : ℕ) (x : Departure) → ((side ≡ x.side) × (port ≡ x.port))
    ⊎ (side ≡ x.side → port ≡ x.port → ⊥)
ports-same side port x = elim (sides side x.side) [
  | inr other ↦ inr (λ same k. other.1 same)
  | inl same ↦ elim (cases_eq port x.port) [ inl here ↦ inl (same, here) | inr there ↦ inr (λ s k. there k) ]
]

-- a departure is the latest turn of its port
pub taken-same : (x : Departure) (before : List Event)
    → taken_at x.port (turns_on x.side (Left x ∷ before))
    ≡ x.turn ∷ taken_at x.port (turns_on x.side before)
unfolding taken_at
taken-same x before =
    ap (λ b. taken_at x.port
    (if b then record { port = x.port; turn = x.turn } ∷ turns_on x.side before else turns_on
    x.side before)) (same-side x.side)
    ∙ ap (λ b. if b then x.turn ∷ taken_at x.port (turns_on x.side before) else taken_at x.port
    (turns_on x.side before)) (eqb-same x.port x.port refl)

skips : (n port : ℕ) (s : Turn HeldFrame) (earlier : List PortTurn) → (port ≡ n → ⊥)
    → taken_at port (record { port = n; turn = s } ∷ earlier) ≡ taken_at port earlier
unfolding taken_at
skips n port s earlier other =
    ap (λ b. if b then s ∷ taken_at port earlier else taken_at port earlier)
    (ne_eqb n port (λ same. other (sym same)))

-- and of no other port
pub taken-other : (side : Side) (port : ℕ) (x : Departure) (before : List Event)
    → (side ≡ x.side → port ≡ x.port → ⊥) → taken_at port (turns_on side (Left x ∷ before))
    ≡ taken_at port (turns_on side before)
taken-other side port x before other = elim (sides side x.side) [
  | inr apart ↦ ap (λ b. taken_at port
      (if b then record { port = x.port; turn = x.turn } ∷ turns_on side before else turns_on side
      before)) apart.0
  | inl same ↦
      ap (λ b. taken_at port (if b then record { port = x.port; turn = x.turn }
      ∷ turns_on side before else turns_on side before))
      (subst (λ s. is_side side s ≡ true) same (same-side side))
      ∙ skips x.port port x.turn (turns_on side before) (λ k. other same k)
]

-- events of which each follows from those before it: the arrivals among them
pub came-all : (t : Rows) (events : List Event) → EachFollows t events → (e : Event)
    → IsAmong e (admissions t (arrivals_in events)) → IsAmong e events
unfolding admissions
came-all t [] f e h = absurd h
came-all t (Left d ∷ before) f e h = inr (came-all t before f.1 e h)
came-all t (Came c ∷ before) f e (inl same) = inl (same ∙ ap (λ a. Came a) (sym f.0))
came-all t (Came c ∷ before) f e (inr later) = inr (came-all t before f.1 e later)

pub came-own : (t : Rows) (events : List Event) → EachFollows t events → (c : Admission)
    → IsAmong (Came c) events → IsAmong (Came c) (admissions t (arrivals_in events))
unfolding admissions
came-own t [] f c h = absurd h
came-own t (Left d ∷ before) f c (inl same) = absurd (cc same)
came-own t (Left d ∷ before) f c (inr later) = came-own t before f.1 c later
came-own t (Came x ∷ before) f c (inl same) = inl (same ∙ ap (λ a. Came a) f.0)
came-own t (Came x ∷ before) f c (inr later) = inr (came-own t before f.1 c later)

-- the turns of the ports among them
pub left-all : (t : Rows) (events : List Event) → EachFollows t events
    → (side : Side) (port : ℕ) (e : Event)
    → IsAmong e (departures_of side port (taken_at port (turns_on side events))) → IsAmong e events
unfolding taken_at
left-all t [] f side port e h = h
left-all t (Came c ∷ before) f side port e h = inr (left-all t before f.1 side port e h)
left-all t (Left x ∷ before) f side port e h = elim (ports-same side port x) [
  | inr other ↦ inr (left-all t before f.1 side port e
      (subst (λ ts. IsAmong e (departures_of side port ts)) (taken-other side port x before other) h))
  | inl same ↦
      (let on_side : IsAmong e
      (departures_of x.side port (taken_at port (turns_on x.side (Left x ∷ before)))) =
      subst (λ s. IsAmong e (departures_of s port
      (taken_at port (turns_on s (Left x ∷ before))))) same.0 h in
      let at_port : IsAmong e (departures_of x.side x.port
      (taken_at x.port (turns_on x.side (Left x ∷ before)))) =
      subst (λ k. IsAmong e (departures_of x.side k
      (taken_at k (turns_on x.side (Left x ∷ before))))) same.1 on_side in
      here (subst (λ ts. IsAmong e (departures_of x.side x.port ts)) (taken-same x before) at_port)
      (left-all t before f.1 x.side x.port e))
]
  where
    here : IsAmong e (departures_of x.side x.port
        (x.turn ∷ taken_at x.port (turns_on x.side before)))
        → (IsAmong e (departures_of x.side x.port (taken_at x.port (turns_on x.side before)))
        → IsAmong e before) →
        IsAmong e (Left x ∷ before)
    here (inl same) earlier = inl (same ∙ ap (λ k. Left (departure_with x.side x.port k x.turn)) (sym f.0.2))
    here (inr later) earlier = inr (earlier later)

left-more : (side : Side) (port : ℕ) (x : Departure) (before : List Event) (e : Event)
    → IsAmong e (departures_of side port (taken_at port (turns_on side before))) →
    IsAmong e (departures_of side port (taken_at port (turns_on side (Left x ∷ before))))
left-more side port x before e h = elim (ports-same side port x) [
  | inr other ↦ subst (λ ts. IsAmong e (departures_of side port ts)) (sym (taken-other side port x before other)) h
  | inl same ↦
      (let on_side : IsAmong e
      (departures_of x.side port (taken_at port (turns_on x.side before))) =
      subst (λ s. IsAmong e (departures_of s port (taken_at port (turns_on s before)))) same.0 h in
      let at_port : IsAmong e (departures_of x.side x.port
      (taken_at x.port (turns_on x.side before))) =
      subst (λ k. IsAmong e (departures_of x.side k (taken_at k (turns_on x.side before))))
      same.1 on_side in
      let more : IsAmong e (departures_of x.side x.port
      (taken_at x.port (turns_on x.side (Left x ∷ before)))) =
      subst (λ ts. IsAmong e (departures_of x.side x.port ts)) (sym (taken-same x before))
      (inr at_port) in
      subst (λ s. IsAmong e (departures_of s port (taken_at port (turns_on s (Left x ∷ before))))) (sym same.0)
      (subst (λ k. IsAmong e (departures_of x.side k
      (taken_at k (turns_on x.side (Left x ∷ before))))) (sym same.1) more))
]

-- a departure among them is a turn of its port
pub record IsOwn (events : List Event) (d : Departure) : Type 0 where
  pub low : 1 ≤ d.port
  pub high : d.port ≤ 24
  pub among : IsAmong (Left d) (departures_of d.side d.port (taken_at d.port (turns_on d.side events)))

pub left-own : (t : Rows) (events : List Event) → EachFollows t events → (d : Departure)
    → IsAmong (Left d) events → IsOwn events d
left-own t [] f d h = absurd h
left-own t (Came c ∷ before) f d (inl same) = absurd (cc same)
left-own t (Came c ∷ before) f d (inr later) = let r = left-own t before f.1 d later in
    record { low = r.low; high = r.high; among = r.among }
left-own t (Left x ∷ before) f d (inl same) =
    let is : d ≡ x = cc same in
    subst (λ z. IsOwn (Left x ∷ before) z) (sym is) (record {
      low = f.0.0;
      high = f.0.1;
      among = subst (λ ts. IsAmong (Left x) (departures_of x.side x.port ts))
          (sym (taken-same x before)) (inl
          (ap (λ k. Left (departure_with x.side x.port k x.turn)) f.0.2));
    })
left-own t (Left x ∷ before) f d (inr later) =
    let r = left-own t before f.1 d later in
    record { low = r.low; high = r.high; among = left-more d.side d.port x before (Left d) r.among }
