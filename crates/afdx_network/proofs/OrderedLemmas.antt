-- All events of some arrivals, put in order.
use Rattle.std.proofs.Common.{◌≡◌, ℕ, zero, suc, ◌<◌, List, [], ◌∷◌, ◌++◌, length, get_or, filter}
use Rattle.std.proofs.Common.{refl, ap, sym, ◌∙◌, subst, Bool, true, false, IsTrue, arith, ◌⊎◌, inl}
use Rattle.std.proofs.Common.{inr, if◌then◌else◌}
use Rattle.std.specs.List.{AllByRecursion}
use Rattle.afdx_frame.specs.declared.link.Side.{Side}
use Rattle.afdx_frame.specs.declared.link.Side.TheVariants.{A, B}
use Rattle.afdx_config.specs.Rows.{Rows}
use Rattle.afdx_police.specs.Arrival.{Arrival}
use Rattle.afdx_port.specs.Schedule.{Turn}
use Rattle.afdx_switch.specs.HeldFrames.{HeldFrame}
use Rattle.afdx_network.specs.Events.{Event, Came, Left, Admission, Departure, admission_after}
use Rattle.afdx_network.specs.Events.{departure_with, admissions, turns_at, departures_of}
use Rattle.afdx_network.specs.Events.{departures_below, departures, all_events, arrivals_in}
use Rattle.afdx_network.specs.Order.{side_number, phase_of, key, is_before, IsAmong, AreInOrder}
use Rattle.afdx_network.specs.Order.{AreEvents, AreEventsSoFar, AreFirst, is_told_by, put_in}
use Rattle.afdx_network.specs.Order.{in_order, events_of, events_so_far}
use Rattle.afdx_network.proofs.OrderLemmas.{below_self, below_total, before_trans, all_among}
use Rattle.afdx_network.proofs.OrderLemmas.{all_from, among_either, same_events}
use Rattle.afdx_network.proofs.EventLemmas.{turn-of, at-port, at-port-of}

put-own : (e d : Event) (es : List Event) → IsAmong d (put_in e es) → (d ≡ e) ⊎ IsAmong d es
put-own e d [] h = h
put-own e d (x ∷ before) h = by (is_before e x) h (put-own e d before)
  where
    by : (b : Bool) → IsAmong d (if b then x ∷ put_in e before else e ∷ x ∷ before)
        → (IsAmong d (put_in e before) → (d ≡ e) ⊎ IsAmong d before) → (d ≡ e) ⊎ IsAmong d (x ∷ before)
    by true (inl same) more = inr (inl same)
    by true (inr later) more = elim (more later) [ inl is ↦ inl is | inr old ↦ inr (inr old) ]
    by false (inl same) more = inl same
    by false (inr later) more = inr later

put-all : (e d : Event) (es : List Event) → (d ≡ e) ⊎ IsAmong d es → IsAmong d (put_in e es)
put-all e d [] h = h
put-all e d (x ∷ before) h = by (is_before e x) h (put-all e d before)
  where
    by : (b : Bool) → (d ≡ e) ⊎ IsAmong d (x ∷ before)
        → ((d ≡ e) ⊎ IsAmong d before → IsAmong d (put_in e before))
        → IsAmong d (if b then x ∷ put_in e before else e ∷ x ∷ before)
    by true (inl same) more = inr (more (inl same))
    by true (inr (inl here)) more = inl here
    by true (inr (inr old)) more = inr (more (inr old))
    by false (inl same) more = inl same
    by false (inr old) more = inr old

bool-cases : (b : Bool) → (b ≡ true) ⊎ (b ≡ false)
bool-cases true = inl refl
bool-cases false = inr refl

put-order : (e : Event) (es : List Event) → AreInOrder es
    → ((d : Event) → IsAmong d es → key d ≡ key e → ⊥) → AreInOrder (put_in e es)
put-order e [] ordered apart = (tt, tt)
put-order e (x ∷ before) ordered apart =
    by (is_before e x) refl (put-order e before ordered.1 (λ d among. apart d (inr among)))
  where
    earlier : (d : Event) → IsAmong d before → is_before d x ≡ true
    earlier d among = all_among (λ z. IsTrue (is_before z x)) d before ordered.0 among

    up : is_before e x ≡ false → is_before x e ≡ true
    up not_e = elim (bool-cases (is_before x e)) [
      | inl is ↦ is
      | inr not_x ↦ absurd
          (apart x (inl refl) (below_total (key x) (key e) not_x not_e))
    ]

    by : (b : Bool) → is_before e x ≡ b → AreInOrder (put_in e before)
        → AreInOrder (if b then x ∷ put_in e before else e ∷ x ∷ before)
    by true is rest = (
      all_from (λ d. IsTrue (is_before d x)) (put_in e before)
          (λ d among. elim (put-own e d before among)
          [ inl same ↦ subst (λ z. is_before z x ≡ true) (sym same) is | inr old ↦ earlier d old ]),
      rest,
    )
    by false is rest = (
      all_from (λ d. IsTrue (is_before d e)) (x ∷ before)
          (λ d among. elim among [
            | inl same ↦ subst (λ z. is_before z e ≡ true) (sym same) (up is)
            | inr old ↦ before_trans d x e (earlier d old) (up is)
          ]),
      ordered,
    )

-- no two of these events have one key
abbrev AreApart : List Event → Type 0
AreApart [] = Unit {0}
AreApart (e ∷ es) = ((d : Event) → IsAmong d es → key d ≡ key e → ⊥) × AreApart es

ordered-own : (e : Event) (es : List Event) → IsAmong e (in_order es) → IsAmong e es
ordered-own e [] h = h
ordered-own e (x ∷ es) h =
    elim (put-own x e (in_order es) h) [ inl same ↦ inl same | inr old ↦ inr (ordered-own e es old) ]

ordered-all : (e : Event) (es : List Event) → IsAmong e es → IsAmong e (in_order es)
ordered-all e [] h = h
ordered-all e (x ∷ es) h =
    put-all x e (in_order es) (elim h [ inl same ↦ inl same | inr old ↦ inr (ordered-all e es old) ])

ordered : (es : List Event) → AreApart es → AreInOrder (in_order es)
ordered [] apart = tt
ordered (x ∷ es) apart = put-order x (in_order es) (ordered es apart.1) (λ d among. apart.0 d (ordered-own d es among))

apart-append : (xs ys : List Event) → AreApart xs → AreApart ys
    → ((d e : Event) → IsAmong d xs → IsAmong e ys → key e ≡ key d → ⊥) → AreApart (xs ++ ys)
apart-append [] ys p q cross = q
apart-append (x ∷ xs) ys p q cross = (
  λ d among. elim (among_either d xs ys among) [ inl here ↦ p.0 d here | inr there ↦ cross x d (inl refl) there ],
  apart-append xs ys p.1 q (λ d e here there. cross d e (inr here) there),
)

admission-of : (t : Rows) (past : List Arrival) (e : Event) → IsAmong e (admissions t past)
    → (c : Admission) × (e ≡ Came c) × (c.place < length past)
unfolding admissions
admission-of t [] e h = absurd h
admission-of t (x ∷ past) e (inl same) = (admission_after t past x, same, omega arith)
admission-of t (x ∷ past) e (inr later) = let r = admission-of t past e later in (r.0, r.1, omega (arith, r.2))

same-at : (i : ℕ) (d e : Event) → key d ≡ key e → get_or (key d) i 0 ≡ get_or (key e) i 0
same-at i d e h = ap (λ (ks : List ℕ). get_or ks i 0) h

admissions-apart : (t : Rows) (past : List Arrival) → AreApart (admissions t past)
unfolding admissions
admissions-apart t [] = tt
admissions-apart t (x ∷ past) = (
  λ d among same.
      let c = admission-of t past d among in
      let place : c.0.place ≡ length past =
      same-at 2 (Came c.0) (Came (admission_after t past x)) (ap (λ z. key z) (sym c.1) ∙ same) in
      omega (arith, place, c.2),
  admissions-apart t past,
)

turns-apart : (side : Side) (port : ℕ) (turns : List (Turn HeldFrame)) → AreApart (departures_of side port turns)
turns-apart side port [] = tt
turns-apart side port (s ∷ earlier) = (
  λ d among same.
      let r = turn-of side port earlier d among in
      let place : r.d.place ≡ length earlier =
      same-at 4 (Left r.d) (Left (departure_with side port (length earlier) s))
      (ap (λ z. key z) (sym r.is) ∙ same) in
      omega (arith, place, r.below),
  turns-apart side port earlier,
)

ports-apart : (t : Rows) (side : Side) (arrivals : List Arrival) (count : ℕ)
    → AreApart (departures_below t side arrivals count)
unfolding departures_below
ports-apart t side arrivals zero = tt
ports-apart t side arrivals (suc count) =
    apart-append (departures_of side (suc count) (turns_at t side (suc count) arrivals))
    (departures_below t side arrivals count)
    (turns-apart side (suc count) (turns_at t side (suc count) arrivals)) (ports-apart t side arrivals count)
    (λ d e here there same.
    let a = turn-of side (suc count) (turns_at t side (suc count) arrivals) d here in
    let p = at-port t side arrivals count e there in
    let b = turn-of side p.port (turns_at t side p.port arrivals) e p.among in
    let port : b.d.port ≡ a.d.port =
    same-at 3 (Left b.d) (Left a.d) (ap (λ z. key z) (sym b.is) ∙ same ∙ ap (λ z. key z) a.is) in
    omega (arith, port, a.port_is, b.port_is, p.high))

record IsOf (side : Side) (e : Event) : Type 0 where
  d : Departure
  is : e ≡ Left d
  side_is : d.side ≡ side

of-side : (t : Rows) (side : Side) (arrivals : List Arrival) (e : Event)
    → IsAmong e (departures t side arrivals) → IsOf side e
of-side t side arrivals e h =
    let p = at-port-of t side arrivals e h in
    let r = turn-of side p.port (turns_at t side p.port arrivals) e p.among in
    record { d = r.d; is = r.is; side_is = r.side_is }

not-one : (o : Bool) → 1 ≡ phase_of o → ⊥
not-one true h = omega (arith, h)
not-one false h = omega (arith, h)

side-apart : (t : Rows) (side : Side) (arrivals : List Arrival) → AreApart (departures t side arrivals)
unfolding departures
side-apart t side arrivals = ports-apart t side arrivals 24

all-apart : (t : Rows) (arrivals : List Arrival) → AreApart (all_events t arrivals)
unfolding all_events
all-apart t arrivals =
    apart-append (admissions t arrivals) (departures t A arrivals ++ departures t B arrivals)
    (admissions-apart t arrivals)
    (apart-append (departures t A arrivals) (departures t B arrivals) (side-apart t A arrivals)
    (side-apart t B arrivals)
    (λ d e here there same.
    let a = of-side t A arrivals d here in
    let b = of-side t B arrivals e there in
    both a.d b.d a.side_is b.side_is (ap (λ z. key z) (sym b.is) ∙ same ∙ ap (λ z. key z) a.is)))
    (λ d e here there same.
    let c = admission-of t arrivals d here in
    elim (among_either e (departures t A arrivals) (departures t B arrivals) there) [
      | inl a ↦ (let r = of-side t A arrivals e a in
          not-one r.d.turn.too_old (same-at 1 (Came c.0) (Left r.d)
          (ap (λ z. key z) (sym c.1) ∙ sym same ∙ ap (λ z. key z) r.is)))
      | inr b ↦ (let r = of-side t B arrivals e b in
          not-one r.d.turn.too_old (same-at 1 (Came c.0) (Left r.d)
          (ap (λ z. key z) (sym c.1) ∙ sym same ∙ ap (λ z. key z) r.is)))
    ])
  where
    both : (a b : Departure) → a.side ≡ A → b.side ≡ B → key (Left b) ≡ key (Left a) → ⊥
    both a b on_a on_b same =
        let number : get_or (key (Left b)) 2 0 ≡ get_or (key (Left a)) 2 0 = same-at 2 (Left b) (Left a) same in
        let one : 1 ≡ 0 = ap (λ s. side_number s) (sym on_b) ∙ number ∙ ap (λ s. side_number s) on_a in
        omega (arith, one)

pub are-events : (t : Rows) (arrivals : List Arrival) → AreEvents t arrivals (events_of t arrivals)
unfolding events_of
are-events t arrivals = record {
  in_order = ordered (all_events t arrivals) (all-apart t arrivals);
  own = λ e among. ordered-own e (all_events t arrivals) among;
  all = λ e among. ordered-all e (all_events t arrivals) among;
}

-- those that pass a test
pub filter-own : (p : Event → Bool) (e : Event) (es : List Event) → IsAmong e (filter p es)
    → IsAmong e es × IsTrue (p e)
filter-own p e [] h = absurd h
filter-own p e (x ∷ es) h = by (p x) refl h (filter-own p e es)
  where
    by : (b : Bool) → p x ≡ b → IsAmong e (if b then x ∷ filter p es else filter p es)
        → (IsAmong e (filter p es) → IsAmong e es × IsTrue (p e)) → IsAmong e (x ∷ es) × IsTrue (p e)
    by true is (inl same) more = (inl same, subst (λ z. p z ≡ true) (sym same) is)
    by true is (inr later) more = let r = more later in (inr r.0, r.1)
    by false is later more = let r = more later in (inr r.0, r.1)

pub filter-all : (p : Event → Bool) (e : Event) (es : List Event) → IsAmong e es → p e ≡ true → IsAmong e (filter p es)
filter-all p e [] h passes = absurd h
filter-all p e (x ∷ es) h passes = by (p x) refl h (λ among. filter-all p e es among passes)
  where
    by : (b : Bool) → p x ≡ b → IsAmong e (x ∷ es) → (IsAmong e es → IsAmong e (filter p es))
        → IsAmong e (if b then x ∷ filter p es else filter p es)
    by true is (inl same) more = inl same
    by true is (inr later) more = inr (more later)
    by false is (inl same) more = absurd (let passes_x : p x ≡ true = subst (λ z. p z ≡ true) same passes in cc)
    by false is (inr later) more = more later

pub filter-order : (p : Event → Bool) (es : List Event) → AreInOrder es → AreInOrder (filter p es)
filter-order p [] h = tt
filter-order p (x ∷ es) h = by (p x) (filter-order p es h.1)
  where
    by : (b : Bool) → AreInOrder (filter p es) → AreInOrder (if b then x ∷ filter p es else filter p es)
    by true rest = (
      all_from (λ d. IsTrue (is_before d x)) (filter p es)
          (λ d among. all_among (λ z. IsTrue (is_before z x)) d es h.0 (filter-own p d es among).0),
      rest,
    )
    by false rest = rest

pub are-so-far : (t : Rows) (arrivals : List Arrival) → AreEventsSoFar t arrivals (events_so_far t arrivals)
unfolding events_so_far
are-so-far t arrivals =
    let all = are-events t arrivals in
    record {
      in_order = filter-order (is_told_by arrivals) (events_of t arrivals) all.in_order;
      own = λ e among. (let r = filter-own (is_told_by arrivals) e (events_of t arrivals) among in
          (all.own e r.0, r.1));
      all = λ e meant. filter-all (is_told_by arrivals) e (events_of t arrivals) (all.all e meant.0) meant.1;
    }

pub one-order : (t : Rows) (arrivals : List Arrival) (events : List Event)
    → AreEvents t arrivals events → events ≡ events_of t arrivals
one-order t arrivals events h =
    same_events (λ e. IsAmong e (all_events t arrivals)) events (events_of t arrivals) h
    (are-events t arrivals)

pub one-order-so-far : (t : Rows) (arrivals : List Arrival) (events : List Event)
    → AreEventsSoFar t arrivals events → events ≡ events_so_far t arrivals
one-order-so-far t arrivals events h =
    same_events (λ e. IsAmong e (all_events t arrivals) × IsTrue (is_told_by arrivals e)) events
    (events_so_far t arrivals) h (are-so-far t arrivals)

-- events in order that have none of a longer list before them stand at its end
end-of : (all events : List Event) → AreInOrder all → AreInOrder events
    → ((e : Event) → IsAmong e events → IsAmong e all)
    → ((e : Event) → IsAmong e all → IsAmong e events
    ⊎ AllByRecursion (λ d. IsTrue (is_before d e)) events) →
    (later : List Event) × (all ≡ later ++ events)
end-of [] [] whole part own rest = ([], refl)
end-of [] (e ∷ events) whole part own rest = absurd (own e (inl refl))
end-of (x ∷ all) events whole part own rest = elim (rest x (inl refl)) [
  | inl among ↦ (
    [],
    same_events (λ e. IsAmong e (x ∷ all)) (x ∷ all) events
        (record { in_order = whole; own = λ e h. h; all = λ e h. h }) (record {
          in_order = part;
          own = own;
          all = λ e h. elim (rest e h) [
            | inl here ↦ here
            | inr after ↦ absurd
                (not-after e h (all_among (λ d. IsTrue (is_before d e)) x events after among))
          ];
        }),
  )
  | inr after ↦
      (let r = end-of all events whole.1 part
      (λ e h. elim (own e h) [
        | inl same ↦ absurd
            (itself (subst (λ z. is_before z x ≡ true) same
            (all_among (λ d. IsTrue (is_before d x)) e events after h)))
        | inr old ↦ old
      ])
      (λ e h. rest e (inr h)) in
      (x ∷ r.0, ap (λ es. x ∷ es) r.1))
]
  where
    itself : is_before x x ≡ true → ⊥
    itself h = let no_one = below_self (key x) in cc

    not-after : (e : Event) → IsAmong e (x ∷ all) → is_before x e ≡ true → ⊥
    not-after e (inl same) h = itself (subst (λ z. is_before x z ≡ true) same h)
    not-after e (inr old) h = itself (before_trans x e x h (all_among (λ d. IsTrue (is_before d x)) e all whole.0 old))

pub begins : (t : Rows) (events : List Event) → AreFirst t events → (later : List Event)
    × (events_of t (arrivals_in events) ≡ later ++ events)
begins t events first =
    let all = are-events t (arrivals_in events) in
    end-of (events_of t (arrivals_in events)) events all.in_order first.in_order
    (λ e h. all.all e (first.own e h)) (λ e h. first.rest e (all.own e h))
