-- The frame at the front of the ring comes before all else that is due, where no slot ends at its
-- time.
use Rattle.std.proofs.Common.{◌≡◌, ℕ, ◌+◌, ◌*◌, ◌<◌, ◌≤◌, ◌==◌, ◌&&◌, ◌⊎◌, Bool, true, false, List, [], ◌∷◌, ◌++◌}
use Rattle.std.proofs.Common.{map, filter, refl, sym, ap, ◌∙◌, subst, arith, inl, inr}
use Rattle.std.specs.Prelude.{if◌then◌else◌, Some}
use Rattle.std.specs.List.{AllByRecursion}
use Rattle.std.proofs.lemmas.Bool.{cases_Bool, and_parts, eqb-true}
use Rattle.std.proofs.lemmas.List.{append_cancel_right, append_assoc}
use Rattle.afdx_frame.specs.declared.link.Side.{Side}
use Rattle.afdx_frame.proofs.SideLemmas.{is_side-same}
use Rattle.afdx_police.specs.Arrival.{Arrival, is_side}
use Rattle.afdx_port.specs.Due.{order_of}
use Rattle.afdx_port.specs.History.{due_at}
use Rattle.afdx_port.proofs.TurnLemmas.{eqb-same}
use Rattle.afdx_switch.specs.Switching.{PortTurn, IsNextOf}
use Rattle.afdx_switch.proofs.ArrivalLemmas.{same-side}
use Rattle.afdx_network.specs.Events.{calls_on}
use Rattle.afdx_network.specs.Order.{is_below, side_number}
use Rattle.afdx_network.proofs.OrderLemmas.{below_first, below_next, below_self}
use Rattle.afdx_law_promises.specs.Sent.{arrivals_at}
use Rattle.afdx_cascade.specs.Cables.{brought}
use Rattle.afdx_cascade.specs.SwitchEvents.{Plan, IsPlan, End, SwitchEvent, at_switch, came_to}
use Rattle.afdx_cascade.specs.Runs.{IsTurnDue, IsFrameDue, IsDue, arriving, turn_phase}
use Rattle.afdx_cascade.specs.Due.{AreOrders, IsLeastOf, OnCable, IsRing, frame_place, from_end, has_left}
use Rattle.afdx_cascade.specs.Due.{TurnComesNext, FrameComesNext, turn_place, turn_event}
use Rattle.afdx_cascade.proofs.DueLemmas.{turn-first}

-- a frame on a cable comes before a turn that isn't a slot of its time
frame-before : (t end : ℕ) (old : Bool) (ms ns : List ℕ) → 2 * t < 2 * end + (if old then 1 else 0)
    → is_below (t ∷ 1 ∷ ms) (end ∷ turn_phase old ∷ ns) ≡ true
frame-before t end false ms ns h = below_first t end (1 ∷ ms) (0 ∷ ns) (omega (arith, h))
frame-before t end true ms ns h =
    below_next t end (1 ∷ ms) (3 ∷ ns) (omega (arith, h)) (below_first 1 3 ms ns (omega arith))

-- what left one port is one frame at most: two would stand at one place
pub same-end : (side : Side) (other : End) (r z : OnCable) → has_left side other r ≡ true
    → has_left side other z ≡ true
    → r.turn.end ≡ z.turn.end → frame_place r ≡ frame_place z
same-end side other r z h i time =
    let of-r = and_parts (is_side side r.side)
    (other.switch == r.from.switch && other.port == r.from.port) h in
    let of-z = and_parts (is_side side z.side)
    (other.switch == z.from.switch && other.port == z.from.port) i in
    let ends-r = and_parts (other.switch == r.from.switch) (other.port == r.from.port) of-r.1 in
    let ends-z = and_parts (other.switch == z.from.switch) (other.port == z.from.port) of-z.1 in
    let sides : r.side ≡ z.side = sym (is_side-same side r.side of-r.0)
    ∙ is_side-same side z.side of-z.0 in
    let switches : r.from.switch ≡ z.from.switch =
    sym (eqb-true other.switch r.from.switch ends-r.0)
    ∙ eqb-true other.switch z.from.switch ends-z.0 in
    let ports : r.from.port ≡ z.from.port =
    sym (eqb-true other.port r.from.port ends-r.1) ∙ eqb-true other.port z.from.port ends-z.1 in
    rw (time, sides, switches, ports) refl

pub none-behind : (side : Side) (other : End) (r : OnCable) (rest : List OnCable) (time : ℕ)
    → has_left side other r ≡ true
    → r.turn.end ≡ time → AllByRecursion (λ z. z.turn.end ≡ time) rest
    → AllByRecursion (λ z. is_below (frame_place r) (frame_place z) ≡ true) rest
    → filter (has_left side other) rest ≡ []
none-behind side other r [] time h at all below = refl
none-behind side other r (z ∷ rest) time h at all below =
    elim (cases_Bool (has_left side other z)) [
      | inr apart ↦ rw apart (none-behind side other r rest time h at all.1 below.1)
      | inl alike ↦ absurd (let place = same-end side other r z h alike (at ∙ sym all.0) in
          let lt = below.0 in
          let self = below_self (frame_place z) in
          let same : is_below (frame_place z) (frame_place z) ≡ true =
          subst (λ p. is_below p (frame_place z) ≡ true) place lt in cc)
    ]

pub filter-all : {X : Type 0} (P : X → Type 0) (keep : X → Bool) (xs : List X) → AllByRecursion P xs
    → AllByRecursion P (filter keep xs)
filter-all P keep [] all = tt
filter-all P keep (x ∷ xs) all = by (keep x) (filter-all P keep xs all.1)
  where
    by : (b : Bool) → AllByRecursion P (filter keep xs)
        → AllByRecursion P (if b then x ∷ filter keep xs else filter keep xs)
    by true rest = (all.0, rest)
    by false rest = rest

module _ (c : Plan) (so_far : List SwitchEvent) (time : ℕ) (r : OnCable) (rest : List OnCable)
    (plan : IsPlan c)
    (is : IsRing c so_far time (r ∷ rest)) where
  abbrev to : End
  to = is.joined.0.0

  back : c.far_end to.switch to.port ≡ Some r.from
  back = (plan.ports r.from.switch r.from.port to is.joined.0.1).2

  abbrev x : Arrival
  x = brought r.side to.port r.turn

  own : has_left r.side r.from r ≡ true
  own = rw (
    same-side r.side,
    eqb-same r.from.switch r.from.switch refl,
    eqb-same r.from.port r.from.port refl,
  ) refl

  only : from_end r.side r.from (r ∷ rest) ≡ r.turn ∷ []
  only = rw (own, none-behind r.side r.from r rest time own is.at_time.0 is.at_time.1 is.ascending.0) refl

  -- the front frame is due
  pub front-due : IsFrameDue c so_far (frame_place r) (arriving c so_far to.switch x)
  front-due = record {
    k = to.switch;
    side = r.side;
    port = to.port;
    other = r.from;
    joined = back;
    later = [];
    arrival = x;
    waits = is.carries to.switch to.port r.side r.from back
        ∙ ap (λ ts. map (brought r.side to.port) ts
        ++ arrivals_at r.side to.port (came_to to.switch so_far)) only;
    place_is = refl;
    is = refl;
  }

  -- before each turn, where no slot ends at its time
  pub before-turns : (order : ℕ → Side → ℕ) → AreOrders c so_far order
      → ((k : ℕ) (side : Side) → 2 * time < order k side)
      → (place : List ℕ) (g : SwitchEvent) → IsTurnDue c so_far place g
      → is_below (frame_place r) place ≡ true
  before-turns order orders late place g due =
      let le = orders due.k due.side due.port due.turn due.low due.high due.next in
      let lt = late due.k due.side in
      let at = is.at_time.0 in
      subst (λ p. is_below (frame_place r) p ≡ true) (sym due.place_is)
      (frame-before r.turn.end due.turn.end due.turn.too_old
      (side_number r.side ∷ r.from.switch ∷ r.from.port ∷ [])
      (side_number due.side ∷ due.k ∷ due.port ∷ []) (omega (arith, le, lt, at)))

  -- a frame of another port stands behind it
  behind : (side : Side) (other : End) (z : OnCable) (zs : List OnCable)
      → filter (has_left side other) rest ≡ z ∷ zs
      → is_below (frame_place r) (frame_place z) ≡ true
  behind side other z zs found =
      let kept = filter-all (λ y. is_below (frame_place r) (frame_place y) ≡ true)
      (has_left side other) rest is.ascending.0 in
      (subst (AllByRecursion (λ y. is_below (frame_place r) (frame_place y) ≡ true)) found kept).0

-- the first that a filter keeps passes
filter-first : {X : Type 0} (keep : X → Bool) (xs : List X) (z : X) (zs : List X)
    → filter keep xs ≡ z ∷ zs → keep z ≡ true
filter-first keep [] z zs f = absurd (cc f)
filter-first keep (x ∷ xs) z zs f = by (keep x) refl f (λ e. filter-first keep xs z zs e)
  where
    by : (b : Bool) → keep x ≡ b → (if b then x ∷ filter keep xs else filter keep xs) ≡ z ∷ zs
        → (filter keep xs ≡ z ∷ zs → keep z ≡ true) → keep z ≡ true
    by true is e later = (let same : x ≡ z = cc e in subst (λ w. keep w ≡ true) same is)
    by false is e later = later e

-- the oldest of what some of the ring are comes at the ring's time
last-time : (time : ℕ) (side : Side) (port : ℕ) (rs : List OnCable) (later : List Arrival)
    (a : Arrival)
    → AllByRecursion (λ r. r.turn.end ≡ time) rs
    → map (brought side port) (map (λ r. r.turn) rs) ≡ later ++ a ∷ [] → a.time ≡ time
last-time time side port [] [] a all e = absurd (cc e)
last-time time side port [] (l ∷ later) a all e = absurd (cc e)
last-time time side port (r ∷ rs) [] a all e =
    let same : brought side port r.turn ≡ a = cc e in
    subst (λ y. y.time ≡ time) same all.0
last-time time side port (r ∷ rs) (l ∷ later) a all e =
    let rest : map (brought side port) (map (λ z. z.turn) rs) ≡ later ++ a ∷ [] = cc e in
    last-time time side port rs later a all.1 rest

none-last : (later : List Arrival) (a : Arrival) → [] ≡ later ++ a ∷ [] → ⊥
none-last [] a e = cc e
none-last (l ∷ later) a e = cc e

-- what waits at an end is what the ring has of it
waits-on : (c : Plan) (so_far : List SwitchEvent) (time : ℕ) (ring : List OnCable)
    → IsRing c so_far time ring
    → (place : List ℕ) (g : SwitchEvent) (due : IsFrameDue c so_far place g)
    → map (brought due.side due.port) (from_end due.side due.other ring)
    ≡ due.later ++ due.arrival ∷ []
waits-on c so_far time ring is place g due =
    append_cancel_right (map (brought due.side due.port) (from_end due.side due.other ring))
    (due.later ++ due.arrival ∷ []) (arrivals_at due.side due.port (came_to due.k so_far))
    (sym (is.carries due.k due.port due.side due.other due.joined) ∙ due.waits
    ∙ sym (append_assoc due.later (due.arrival ∷ [])
    (arrivals_at due.side due.port (came_to due.k so_far))))

-- a frame that is due came at the ring's time
pub frame-time : (c : Plan) (so_far : List SwitchEvent) (time : ℕ) (ring : List OnCable)
    → IsRing c so_far time ring
    → (place : List ℕ) (g : SwitchEvent) (due : IsFrameDue c so_far place g)
    → due.arrival.time ≡ time
frame-time c so_far time ring is place g due =
    last-time time due.side due.port
    (filter (has_left due.side due.other) ring) due.later due.arrival
    (filter-all (λ y. y.turn.end ≡ time) (has_left due.side due.other) ring is.at_time)
    (waits-on c so_far time ring is place g due)

-- what left a port, by its end
pub left-end : (side : Side) (other : End) (r : OnCable) → has_left side other r ≡ true
    → (side ≡ r.side) × (other.switch ≡ r.from.switch) × (other.port ≡ r.from.port)
left-end side other r h =
    let of-r = and_parts (is_side side r.side)
    (other.switch == r.from.switch && other.port == r.from.port) h in
    let ends = and_parts (other.switch == r.from.switch) (other.port == r.from.port) of-r.1 in (
      is_side-same side r.side of-r.0,
      eqb-true other.switch r.from.switch ends.0,
      eqb-true other.port r.from.port ends.1,
    )

module _ (c : Plan) (so_far : List SwitchEvent) (time : ℕ) (r : OnCable) (rest : List OnCable)
    (plan : IsPlan c)
    (is : IsRing c so_far time (r ∷ rest)) where
  abbrev goes_to_end : End
  goes_to_end = is.joined.0.0

  abbrev front : SwitchEvent
  front = arriving c so_far goes_to_end.switch (brought r.side goes_to_end.port r.turn)

  waits-there : (place : List ℕ) (g : SwitchEvent) (due : IsFrameDue c so_far place g)
      → map (brought due.side due.port) (from_end due.side due.other (r ∷ rest))
      ≡ due.later ++ due.arrival ∷ []
  waits-there place g due = waits-on c so_far time (r ∷ rest) is place g due

  -- it is the front one
  it-is-front : (place : List ℕ) (g : SwitchEvent) (due : IsFrameDue c so_far place g)
      → has_left due.side due.other r ≡ true → g ≡ front
  it-is-front place g due h =
      let ends = left-end due.side due.other r h in
      let none = none-behind due.side due.other r rest time h is.at_time.0 is.at_time.1 is.ascending.0 in
      let waits : map (brought due.side due.port) (r.turn ∷ []) ≡ due.later ++ due.arrival ∷ [] =
      ap (λ rs. map (brought due.side due.port) (map (λ z. z.turn) rs))
      (sym (ap (λ b. if b then r ∷ filter (has_left due.side due.other) rest
      else filter (has_left due.side due.other) rest) h ∙ ap (λ zs. r ∷ zs) none))
      ∙ waits-there place g due in
      let arrival : brought due.side due.port r.turn ≡ due.arrival =
      one due.later due.arrival waits in
      let there = (plan.ports due.k due.port due.other due.joined).2 in
      let here : c.far_end r.from.switch r.from.port
      ≡ Some (record { switch = due.k; port = due.port }) =
      subst (λ p. c.far_end r.from.switch p
      ≡ Some (record { switch = due.k; port = due.port })) ends.2
      (subst (λ k. c.far_end k due.other.port
      ≡ Some (record { switch = due.k; port = due.port })) ends.1 there) in
      let joined = is.joined.0.1 in
      let same : record { switch = due.k; port = due.port } ≡ goes_to_end = cc in
      let k : due.k ≡ goes_to_end.switch = ap (λ (e : End). e.switch) same in
      let port : due.port ≡ goes_to_end.port = ap (λ (e : End). e.port) same in
      due.is
      ∙ ap (λ j. arriving c so_far j due.arrival) k
      ∙ ap (λ y. arriving c so_far goes_to_end.switch y)
      (sym arrival ∙ ap (λ s. brought s due.port r.turn) ends.0
      ∙ ap (λ p. brought r.side p r.turn) port)
    where
      one : (later : List Arrival) (a : Arrival) {y : Arrival} → y ∷ [] ≡ later ++ a ∷ [] → y ≡ a
      one [] a e = cc e
      one (l ∷ []) a e = absurd (cc e)
      one (l ∷ m ∷ later) a e = absurd (cc e)

  -- or stands behind it
  it-is-behind : (place : List ℕ) (g : SwitchEvent) (due : IsFrameDue c so_far place g)
      → has_left due.side due.other r ≡ false → is_below (frame_place r) place ≡ true
  it-is-behind place g due h =
      by (filter (has_left due.side due.other) rest) refl
    where
      waits : map (brought due.side due.port)
          (map (λ z. z.turn) (filter (has_left due.side due.other) rest))
          ≡ due.later ++ due.arrival ∷ []
      waits = ap (λ b. map (brought due.side due.port) (map (λ z. z.turn)
          (if b then r ∷ filter (has_left due.side due.other) rest
          else filter (has_left due.side due.other) rest))) (sym h)
          ∙ waits-there place g due

      by : (rs : List OnCable) → filter (has_left due.side due.other) rest ≡ rs
          → is_below (frame_place r) place ≡ true
      by [] f = absurd (none-last due.later due.arrival
          (ap (λ zs. map (brought due.side due.port) (map (λ z. z.turn) zs)) (sym f) ∙ waits))
      by (z ∷ zs) f =
          let below = behind c so_far time r rest plan is due.side due.other z zs f in
          let ends = left-end due.side due.other z
          (filter-first (has_left due.side due.other) rest z zs f) in
          let kept = filter-all (λ y. y.turn.end ≡ time)
          (has_left due.side due.other) rest is.at_time.1 in
          let at-z : z.turn.end ≡ time =
          (subst (AllByRecursion (λ y. y.turn.end ≡ time)) f kept).0 in
          let at : due.arrival.time ≡ time =
          last-time time due.side due.port
          (filter (has_left due.side due.other) rest) due.later due.arrival kept waits in
          let same : frame_place z ≡ place =
          rw (at-z, sym ends.0, sym ends.1, sym ends.2) (sym (due.place_is ∙ ap (λ t.
          t ∷ 1 ∷ side_number due.side ∷ due.other.switch ∷ due.other.port ∷ []) at)) in
          subst (λ p. is_below (frame_place r) p ≡ true) same below

  -- before each other frame on a cable
  pub before-frames : (place : List ℕ) (g : SwitchEvent) → IsFrameDue c so_far place g
      → (g ≡ front) ⊎ (is_below (frame_place r) place ≡ true)
  before-frames place g due = elim (cases_Bool (has_left due.side due.other r)) [
    | inl h ↦ inl (it-is-front place g due h)
    | inr h ↦ inr (it-is-behind place g due h)
  ]

-- where the ring is empty no frame is due
pub no-frames : (c : Plan) (so_far : List SwitchEvent) (time : ℕ) → IsRing c so_far time []
    → (place : List ℕ) (g : SwitchEvent) → IsFrameDue c so_far place g → ⊥
no-frames c so_far time is place g due =
    none-last due.later due.arrival
    (append_cancel_right [] (due.later ++ due.arrival ∷ [])
    (arrivals_at due.side due.port (came_to due.k so_far))
    (sym (is.carries due.k due.port due.side due.other due.joined) ∙ due.waits
    ∙ sym (append_assoc due.later (due.arrival ∷ [])
    (arrivals_at due.side due.port (came_to due.k so_far)))))

-- ---- what comes next

-- a turn comes before the frames of a later time, and a slot before those of its own
turn-before : (t end : ℕ) (old : Bool) (ms ns : List ℕ) → 2 * end + (if old then 1 else 0) ≤ 2 * t
    → is_below (end ∷ turn_phase old ∷ ms) (t ∷ 1 ∷ ns) ≡ true
turn-before t end false ms ns h =
    below_next end t (0 ∷ ms) (1 ∷ ns) (omega (arith, h)) (below_first 0 1 ms ns (omega arith))
turn-before t end true ms ns h = below_first end t (3 ∷ ms) (1 ∷ ns) (omega (arith, h))

pub turn-next-first : (c : Plan) (so_far : List SwitchEvent)
    (order : ℕ → Side → ℕ) (k : ℕ) (side : Side) (gone : PortTurn)
    (time : ℕ) (ring : List OnCable) → AreOrders c so_far order → IsLeastOf order k side
    → IsNextOf (c.tables k) side (calls_on side (at_switch k so_far) 0) gone
    → order k side ≡ order_of (due_at gone.turn)
    → IsRing c so_far time ring → (ring ≡ []) ⊎ (order k side ≤ 2 * time)
    → (other : List ℕ) (g : SwitchEvent) → IsDue c so_far other g
    → (g ≡ turn_event so_far k side gone) ⊎ (is_below (turn_place k side gone) other ≡ true)
turn-next-first c so_far order k side gone time ring orders least next is holds early = first
  where
    frames : (r : List OnCable) → IsRing c so_far time r → (r ≡ []) ⊎ (order k side ≤ 2 * time)
        → (other : List ℕ) (g : SwitchEvent) → IsFrameDue c so_far other g
        → is_below (turn_place k side gone) other ≡ true
    frames [] empty e other g due = absurd (no-frames c so_far time empty other g due)
    frames (r ∷ rest) full (inl e) other g due = absurd (cc e)
    frames (r ∷ rest) full (inr le) other g due =
        let at = frame-time c so_far time (r ∷ rest) full other g due in
        subst (λ p. is_below (turn_place k side gone) p ≡ true) (sym due.place_is)
        (turn-before due.arrival.time gone.turn.end gone.turn.too_old
        (side_number side ∷ k ∷ gone.port ∷ [])
        (side_number due.side ∷ due.other.switch ∷ due.other.port ∷ []) (omega (arith, le, is, at)))

    first : (other : List ℕ) (g : SwitchEvent) → IsDue c so_far other g
        → (g ≡ turn_event so_far k side gone) ⊎ (is_below (turn_place k side gone) other ≡ true)
    first other g (inl turn) =
        turn-first c so_far order k side gone orders least next is other g turn
    first other g (inr frame) = inr (frames ring holds early other g frame)

pub turn-next : TurnComesNext
turn-next c so_far lines order k side gone time ring orders least next is holds early before =
    record {
      place = turn_place k side gone;
      due = inl (record {
        k = k;
        side = side;
        port = gone.port;
        turn = gone.turn;
        low = next.port_first;
        high = next.port_last;
        next = next.next;
        place_is = refl;
        is = refl;
      });
      before_line = before;
      first = turn-next-first c so_far order k side gone time ring orders least next is holds early;
    }

pub frame-next : FrameComesNext
frame-next c so_far lines order time r rest to plan orders late ring joined before = record {
  place = frame_place r;
  due = inr (front-of to.switch to.port (sym same));
  before_line = before;
  first = first;
}
  where
    same : to ≡ ring.joined.0.0
    same = let own = ring.joined.0.1 in cc

    front-of : (k port : ℕ) → ring.joined.0.0 ≡ record { switch = k; port = port }
        → IsFrameDue c so_far (frame_place r) (arriving c so_far k (brought r.side port r.turn))
    front-of k port e =
        subst (λ (z : End). IsFrameDue c so_far (frame_place r)
        (arriving c so_far z.switch (brought r.side z.port r.turn))) e
        (front-due c so_far time r rest plan ring)

    first : (other : List ℕ) (g : SwitchEvent) → IsDue c so_far other g
        → (g ≡ arriving c so_far to.switch (brought r.side to.port r.turn))
        ⊎ (is_below (frame_place r) other ≡ true)
    first other g (inl turn) =
        inr (before-turns c so_far time r rest plan ring order orders late other g turn)
    first other g (inr frame) = elim (before-frames c so_far time r rest plan ring other g frame) [
      | inr below ↦ inr below
      | inl is ↦ inl (is ∙ ap (λ (z : End).
          arriving c so_far z.switch (brought r.side z.port r.turn)) (sym same))
    ]
