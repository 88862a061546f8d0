-- The ring stays in order.
use Rattle.std.proofs.Common.{◌≡◌, ℕ, ◌+◌, ◌<◌, ◌≤◌, Bool, true, false, List, [], ◌∷◌}
use Rattle.std.proofs.Common.{refl, sym, ap, subst, arith, inl, inr, nat_lt}
use Rattle.std.specs.Prelude.{if◌then◌else◌}
use Rattle.std.proofs.lemmas.Bool.{cases_eq}
use Rattle.afdx_frame.specs.declared.link.Side.{Side}
use Rattle.afdx_port.specs.Schedule.{Turn, IsNext, lasting}
use Rattle.afdx_law_bounds.proofs.AdmittedLemmas.{product-positive}
use Rattle.afdx_law_bounds.proofs.TableLemmas.{byte-time}
use Rattle.afdx_switch.specs.HeldFrames.{HeldFrame}
use Rattle.afdx_switch.specs.Switching.{taken_at}
use Rattle.afdx_switch.specs.Tables.{byte_ns_at, entries_at}
use Rattle.afdx_network.specs.Events.{Event, Departure, Came, Left, arrivals_in, turns_on}
use Rattle.afdx_network.specs.Network.{IsNextOn, departure_after}
use Rattle.afdx_network.specs.Order.{is_below, side_number}
use Rattle.afdx_network.proofs.EventLemmas.{ports-same, taken-same, taken-other}
use Rattle.afdx_network.proofs.OrderLemmas.{below_first, below_next}
use Rattle.afdx_cascade.specs.SwitchEvents.{Plan, SwitchEvent, at_switch}
use Rattle.afdx_cascade.specs.Runs.{IsTurnDue, event_at, turn_phase}
use Rattle.afdx_cascade.specs.Due.{OnCable, frame_place}
use Rattle.afdx_cascade.specs.Standing.{SlotJoinsBehind, TurnStaysBehind, ArrivalStaysBehind, slot_place}
use Rattle.afdx_cascade.proofs.MoreLemmas.{at-same, at-other}

-- two places of one time, and another phase
self-below : (n : ℕ) (ms ns : List ℕ) → is_below (n ∷ ms) (n ∷ ns) ≡ true → is_below ms ns ≡ true
self-below n ms ns h = by (nat_lt n n) (not-less n) h
  where
    not-less : (m : ℕ) → nat_lt m m ≡ false
    not-less m = grind arith

    by : (b : Bool) → b ≡ false → (if b then true else if b then false else is_below ms ns) ≡ true
        → is_below ms ns ≡ true
    by true e i = absurd (cc e)
    by false e i = i

pub joins-behind : SlotJoinsBehind
joins-behind c so_far [] r g at after due = tt
joins-behind c so_far (z ∷ ring) r g at after due = (
  one (after.0 (slot_place r) g due) at.0,
  joins-behind c so_far ring r g at.1 after.1 due,
)
  where
    abbrev_tail : OnCable → List ℕ
    abbrev_tail y = side_number y.side ∷ y.from.switch ∷ y.from.port ∷ []

    one : is_below (slot_place z) (slot_place r) ≡ true → z.turn.end ≡ r.turn.end
        → is_below (frame_place z) (frame_place r) ≡ true
    one h same =
        let there : is_below (r.turn.end ∷ 0 ∷ abbrev_tail z) (r.turn.end ∷ 0 ∷ abbrev_tail r)
        ≡ true =
        subst (λ e. is_below (e ∷ 0 ∷ abbrev_tail z) (r.turn.end ∷ 0 ∷ abbrev_tail r)
        ≡ true) same h in
        let tail = self-below 0 (abbrev_tail z) (abbrev_tail r)
        (self-below r.turn.end (0 ∷ abbrev_tail z) (0 ∷ abbrev_tail r) there) in
        below_next z.turn.end r.turn.end (1 ∷ abbrev_tail z) (1 ∷ abbrev_tail r)
        (omega (arith, same))
        (below_next 1 1 (abbrev_tail z) (abbrev_tail r) (omega arith) tail)

-- ---- a frame arrives

-- a slot comes before a turn that is given after its time
slot-before : (t end : ℕ) (old : Bool) (ms ns : List ℕ) → t < end + (if old then 1 else 0)
    → is_below (t ∷ 0 ∷ ms) (end ∷ turn_phase old ∷ ns) ≡ true
slot-before t end false ms ns h = below_first t end (0 ∷ ms) (0 ∷ ns) (omega (arith, h))
slot-before t end true ms ns h =
    below_next t end (0 ∷ ms) (3 ∷ ns) (omega (arith, h)) (below_first 0 3 ms ns (omega arith))

-- a turn of another switch was due before
pub due-there : (c : Plan) (so_far : List SwitchEvent) (k : ℕ) (e : Event) (place : List ℕ)
    (g : SwitchEvent)
    → (due : IsTurnDue c (event_at k e ∷ so_far) place g) → (k ≡ due.k → ⊥)
    → IsTurnDue c so_far place
    (event_at due.k (Left (departure_after
    (at_switch due.k so_far) due.side due.port due.turn)))
due-there c so_far k e place g due apart = record {
  k = due.k;
  side = due.side;
  port = due.port;
  turn = due.turn;
  low = due.low;
  high = due.high;
  next = subst (λ es. IsNextOn (c.tables due.k) es due.side due.port due.turn)
      (at-other due.k k e so_far apart) due.next;
  place_is = due.place_is;
  is = refl;
}

pub arrival-behind : ArrivalStaysBehind
arrival-behind c so_far [] k a time early quiet after = tt
arrival-behind c so_far (z ∷ ring) k a time early quiet after = (
  λ place g due. one place g due,
  arrival-behind c so_far ring k a time early.1 quiet after.1,
)
  where
    one : (place : List ℕ) (g : SwitchEvent) → IsTurnDue c (event_at k (Came a) ∷ so_far) place g
        → is_below (slot_place z) place ≡ true
    one place g due = elim (cases_eq k due.k) [
      | inr apart ↦ after.0 place
          (event_at due.k (Left (departure_after
          (at_switch due.k so_far) due.side due.port due.turn)))
          (due-there c so_far k (Came a) place g due apart)
      | inl same ↦
          (let next : IsNextOn (c.tables k)
          (Came a ∷ at_switch k so_far) due.side due.port due.turn =
          subst (λ es. IsNextOn (c.tables k) es due.side due.port due.turn)
          (at-same k (Came a) so_far)
          (subst (λ j. IsNextOn (c.tables j)
          (at_switch j (event_at k (Came a) ∷ so_far)) due.side due.port due.turn)
          (sym same) due.next) in
          let late = quiet due.side due.port due.turn due.low due.high next in
          let soon = early.0 in
          subst (λ p. is_below (slot_place z) p ≡ true) (sym due.place_is)
          (slot-before z.turn.end due.turn.end due.turn.too_old
          (side_number z.side ∷ z.from.switch ∷ z.from.port ∷ [])
          (side_number due.side ∷ due.k ∷ due.port ∷ []) (omega (arith, late, soon))))
    ]

-- ---- a turn is over

-- the next turn of a port is given after the one before it is over
pub next-later : (byte_ns bytes end moment over : ℕ) (old : Bool) → 0 < byte_ns
    → over ≡ moment + lasting byte_ns old bytes
    → end ≤ moment → end < over + (if old then 1 else 0)
next-later byte_ns bytes end moment over true some lasts after = omega (arith, lasts, after)
next-later byte_ns bytes end moment over false some lasts after =
    let long = product-positive (bytes + 20) byte_ns (omega arith) some in
    omega (arith, lasts, after, long)

left-same : (d e : Departure) → Left d ≡ Left e → (d.side ≡ e.side) × (d.port ≡ e.port)
left-same d e same = let is : d ≡ e = cc same in
    (ap (λ (x : Departure). x.side) is, ap (λ (x : Departure). x.port) is)

pub turn-behind : TurnStaysBehind
turn-behind c so_far [] k side gone plan after early = tt
turn-behind c so_far (z ∷ ring) k side gone plan after early = (
  λ place g due. one place g due,
  turn-behind c so_far ring k side gone plan after.1 early.1,
)
  where
    d : Departure
    d = departure_after (at_switch k so_far) side gone.port gone.turn

    -- a turn that isn't it
    was-due : (place : List ℕ) (j : ℕ) (s : Side) (port : ℕ) (turn : Turn HeldFrame)
        → IsTurnDue c so_far place
        (event_at j (Left (departure_after (at_switch j so_far) s port turn)))
        → (j ≡ k → s ≡ side → port ≡ gone.port → ⊥) → is_below (slot_place z) place ≡ true
    was-due place j s port turn due not-it =
        let h : SwitchEvent = event_at j
        (Left (departure_after (at_switch j so_far) s port turn)) in
        elim (after.0 place h due) [
          | inr below ↦ below
          | inl same ↦ absurd (not-it (ap (λ (g : SwitchEvent). g.switch) same)
              (left-same (departure_after (at_switch j so_far) s port turn) d
              (ap (λ (g : SwitchEvent). g.event) same)).0
              (left-same (departure_after (at_switch j so_far) s port turn) d
              (ap (λ (g : SwitchEvent). g.event) same)).1)
        ]

    one : (place : List ℕ) (g : SwitchEvent) → IsTurnDue c (event_at k (Left d) ∷ so_far) place g
        → is_below (slot_place z) place ≡ true
    one place g due = elim (cases_eq k due.k) [
      | inr apart ↦ was-due place due.k due.side due.port due.turn
          (due-there c so_far k (Left d) place g due apart)
          (λ same s p. apart (sym same))
      | inl same ↦
          (let there : IsNextOn (c.tables k)
          (Left d ∷ at_switch k so_far) due.side due.port due.turn =
          subst (λ es. IsNextOn (c.tables k) es due.side due.port due.turn)
          (at-same k (Left d) so_far)
          (subst (λ j. IsNextOn (c.tables j)
          (at_switch j (event_at k (Left d) ∷ so_far)) due.side due.port due.turn)
          (sym same) due.next) in
          elim (ports-same due.side due.port d) [
            | inr other ↦ was-due place due.k due.side due.port due.turn (record {
              k = due.k;
              side = due.side;
              port = due.port;
              turn = due.turn;
              low = due.low;
              high = due.high;
              next = subst (λ j. IsNextOn (c.tables j)
                  (at_switch j so_far) due.side due.port due.turn) same
                  (subst (λ ts. IsNext (byte_ns_at (c.tables k) due.port)
                  (entries_at (c.tables k) due.side due.port
                  (arrivals_in (at_switch k so_far))) ts due.turn)
                  (taken-other due.side due.port d (at_switch k so_far) other) there);
              place_is = due.place_is;
              is = refl;
            }) (λ j s p. other s p)
            | inl here ↦
                (let mine : IsNext (byte_ns_at (c.tables k) gone.port)
                (entries_at (c.tables k) side gone.port (arrivals_in (at_switch k so_far)))
                (gone.turn ∷ taken_at gone.port (turns_on side (at_switch k so_far))) due.turn =
                subst (λ ts. IsNext (byte_ns_at (c.tables k) gone.port)
                (entries_at (c.tables k) side gone.port
                (arrivals_in (at_switch k so_far))) ts due.turn)
                (taken-same d (at_switch k so_far))
                (subst (λ s. IsNextOn (c.tables k)
                (Left d ∷ at_switch k so_far) s gone.port due.turn) here.0
                (subst (λ p. IsNextOn (c.tables k)
                (Left d ∷ at_switch k so_far) due.side p due.turn) here.1 there)) in
                let later = next-later (byte_ns_at
                (c.tables k) gone.port) due.turn.entry.bytes gone.turn.end
                due.turn.moment due.turn.end due.turn.too_old
                (byte-time (c.tables k) gone.port (plan.lawful k))
                mine.lasts mine.after in
                let soon = early.0 in
                subst (λ p. is_below (slot_place z) p ≡ true) (sym due.place_is)
                (slot-before z.turn.end due.turn.end due.turn.too_old
                (side_number z.side ∷ z.from.switch ∷ z.from.port ∷ [])
                (side_number due.side ∷ due.k ∷ due.port ∷ []) (omega (arith, later, soon))))
          ])
    ]
