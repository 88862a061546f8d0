-- A turn is over: all goes on.
use Rattle.std.proofs.Common.{◌≡◌, ℕ, ◌+◌, ◌*◌, ◌<◌, ◌≤◌, ◌⊎◌, true, false, List, [], ◌∷◌, ◌++◌}
use Rattle.std.proofs.Common.{length, refl, sym, ap, ◌∙◌, subst, arith, inl, inr}
use Rattle.std.specs.Prelude.{if◌then◌else◌, Option, Some, None, slice_get}
use Rattle.std.specs.List.{AllByRecursion}
use Rattle.std.proofs.lemmas.Bool.{cases_Bool, cases_lt}
use Rattle.afdx_frame.specs.declared.link.Side.{Side}
use Rattle.afdx_port.specs.Due.{given_at, order_of}
use Rattle.afdx_port.specs.History.{due_at}
use Rattle.afdx_port.specs.Ports.{order_without_turn}
use Rattle.afdx_port.specs.Schedule.{Turn}
use Rattle.afdx_switch.specs.HeldFrames.{HeldFrame}
use Rattle.afdx_switch.specs.Switching.{PortTurn, IsNextOf}
use Rattle.afdx_network.specs.Events.{Left, calls_on, departure_with}
use Rattle.afdx_network.specs.Network as network
use Rattle.afdx_network.specs.Network.{IsNextOn, departure_after}
use Rattle.afdx_network.specs.Order.{is_below, side_number}
use Rattle.afdx_network.specs.declared.network.Network.{Network}
use Rattle.afdx_cascade.specs.SwitchEvents.{Plan, End, SwitchEvent, at_switch, end_at}
use Rattle.afdx_cascade.specs.Runs.{Line, IsTurnDue, IsDue, IsBeforeLine, IsFirstDue, event_at}
use Rattle.afdx_cascade.specs.Runs.{turn_phase}
use Rattle.afdx_cascade.specs.Due.{OnCable, turn_place, turn_event}
use Rattle.afdx_cascade.specs.Scan.{IsFirstFrom}
use Rattle.afdx_cascade.specs.Found.{FindsLeast}
use Rattle.afdx_cascade.specs.Standing.{Stands, AreDueAfter, IsLast, slot_place}
use Rattle.afdx_cascade.specs.Turning.{TurnsAt}
use Rattle.afdx_cascade.specs.Keeping.{Keeps, TurnKeeps, TurnIsNext}
use Rattle.afdx_cascade.specs.declared.scan.FirstTurn.{FirstTurn}
use Rattle.afdx_cascade.specs.declared.cable.InTransit.{InTransit}
use Rattle.afdx_cascade.specs.declared.told.Happened.{Happened}
use Rattle.afdx_cascade.proofs.BehindLemmas.{joins-behind, turn-behind}
use Rattle.afdx_cascade.proofs.ComesLemmas.{scan-comes}
use Rattle.afdx_cascade.proofs.RingLemmas.{turn-next, turn-next-first}
use Rattle.afdx_cascade.proofs.ScanLemmas.{scan-least}
use Rattle.afdx_cascade.proofs.CarriedLemmas.{all-pushed}
use Rattle.afdx_cascade.proofs.LaterLemmas.{IsThat, that-one, all-mapped, head-le, given-is}
use Rattle.afdx_cascade.proofs.LaterLemmas.{given-later, at-end, restamp, was-next, own-later}

module _ (c : Plan) (so_far : List SwitchEvent) (old networks : List Network)
    (transit : List InTransit)
    (time until : ℕ) (ring : List OnCable) (f : FirstTurn) (value : Happened)
    (keeps : Keeps c old time ring so_far)
    (is_first : IsFirstFrom 0 old (Some f)) (small : f.order < order_without_turn)
    (early : (ring ≡ []) ⊎ (f.order ≤ 2 * time)) (low : f.order ≤ 2 * until) (high : 2 * until
    ≤ f.order + 1)
    (g : TurnsAt c networks transit time ring so_far f.switch.0 until value) (size : length networks
    ≡ length old)
    (clock : (k : ℕ) (n : Network) → slice_get networks k ≡ Some n → network.IsUntil n until) where
  k : ℕ
  k = f.switch.0

  gone : PortTurn
  gone = record { port = g.departure.port; turn = g.departure.turn }

  found : FindsLeast c so_far f
  found = scan-least c so_far old f keeps.stands.all is_first

  that : IsThat f g.departure
  that =
      let comes = scan-comes c so_far old f keeps.stands.all is_first small in
      that-one c so_far f g.departure found comes.gone comes.next comes.order_is g.next g.first

  next : IsNextOf (c.tables f.switch.0) f.side (calls_on f.side (at_switch f.switch.0 so_far) 0)
      (record { port = g.departure.port; turn = g.departure.turn })
  next = subst (λ s. IsNextOf (c.tables f.switch.0) s (calls_on s (at_switch f.switch.0 so_far) 0)
      (record { port = g.departure.port; turn = g.departure.turn })) that.side_is g.next

  order_is : found.order f.switch.0 f.side ≡ order_of (due_at g.departure.turn)
  order_is = sym found.is ∙ that.order_is

  soonest : (ring ≡ []) ⊎ (found.order f.switch.0 f.side ≤ 2 * time)
  soonest = elim early [ inl e ↦ inl e | inr le ↦ inr (let is = found.is in omega (arith, le, is)) ]

  same-event : event_at f.switch.0 (Left g.departure)
      ≡ turn_event so_far f.switch.0 f.side
      (record { port = g.departure.port; turn = g.departure.turn })
  same-event =
      ap (λ n. event_at f.switch.0
      (Left (departure_with g.departure.side g.departure.port n g.departure.turn))) g.stands.follows.0.2
      ∙ ap (λ s. event_at f.switch.0
      (Left (departure_after (at_switch f.switch.0 so_far) s g.departure.port g.departure.turn)))
      that.side_is

  first : (other : List ℕ) (h : SwitchEvent) → IsDue c so_far other h
      → (h ≡ turn_event so_far f.switch.0 f.side
      (record { port = g.departure.port; turn = g.departure.turn }))
      ⊎ (is_below (turn_place f.switch.0 f.side
      (record { port = g.departure.port; turn = g.departure.turn })) other ≡ true)
  first = turn-next-first c so_far found.order f.switch.0 f.side
      (record {
        port = g.departure.port;
        turn =
            g.departure.turn;
      }) time ring found.are found.least next order_is
      keeps.stands.carried soonest

  own-due : IsTurnDue c so_far
      (turn_place f.switch.0 f.side (record { port = g.departure.port; turn = g.departure.turn }))
      (turn_event so_far f.switch.0 f.side
      (record { port = g.departure.port; turn = g.departure.turn }))
  own-due = record {
    k = f.switch.0;
    side = f.side;
    port = g.departure.port;
    turn = g.departure.turn;
    low = next.port_first;
    high = next.port_last;
    next = next.next;
    place_is = refl;
    is = refl;
  }

  ends : AllByRecursion (λ z. z.turn.end ≤ g.departure.turn.end) ring
  ends = all-mapped
      (λ z. (place : List ℕ) (h : SwitchEvent) → IsTurnDue c so_far place h
      → is_below (slot_place z) place ≡ true)
      (λ z. z.turn.end ≤ g.departure.turn.end) ring
      (λ z after. head-le z.turn.end g.departure.turn.end
      (0 ∷ side_number z.side ∷ z.from.switch ∷ z.from.port ∷ [])
      (turn_phase g.departure.turn.too_old ∷ side_number f.side ∷ f.switch.0 ∷ g.departure.port ∷ [])
      (after (turn_place f.switch.0 f.side
      (record { port = g.departure.port; turn = g.departure.turn }))
      (turn_event so_far f.switch.0 f.side
      (record { port = g.departure.port; turn = g.departure.turn })) own-due))
      keeps.behind

  behind : AreDueAfter c (event_at f.switch.0 (Left g.departure) ∷ so_far) ring
  behind = subst (λ h. AreDueAfter c (h ∷ so_far) ring) (sym same-event)
      (turn-behind c so_far ring f.switch.0 f.side
      (record { port = g.departure.port; turn = g.departure.turn }) keeps.plan
      (all-mapped
      (λ z. (place : List ℕ) (h : SwitchEvent) → IsTurnDue c so_far place h
      → is_below (slot_place z) place ≡ true)
      (λ z. (place : List ℕ) (h : SwitchEvent) → IsTurnDue c so_far place h →
      (h ≡ turn_event so_far f.switch.0 f.side
      (record { port = g.departure.port; turn = g.departure.turn }))
      ⊎ (is_below (slot_place z) place ≡ true)) ring
      (λ z after place h due. inr (after place h due)) keeps.behind) ends)

  until_is : until ≡ g.departure.turn.end + (if g.departure.turn.too_old then 1 else 0)
  until_is = given-is until g.departure.turn.end f.order g.departure.turn.too_old that.order_is low high

  time_is : (ring ≡ []) ⊎ ((time ≡ g.departure.turn.end) × (g.departure.turn.too_old ≡ false))
  time_is = at-end ring time g.departure.turn.end f.order g.departure.turn.too_old keeps.stands.carried.at_time ends
      that.order_is early

  same-time : (ring ≡ []) ⊎ (time ≡ until)
  same-time = elim time_is [
    | inl e ↦ inl e
    | inr h ↦ inr (h.0 ∙ sym (until_is ∙ ap (λ b. g.departure.turn.end + (if b then 1 else 0)) h.1
        ∙ omega arith))
  ]

  later : (j : ℕ) (side : Side) (port : ℕ) (s : Turn HeldFrame) → 1 ≤ port → port ≤ 24
      → IsNextOn (c.tables j) (at_switch j
      (event_at f.switch.0 (Left g.departure) ∷ so_far)) side port s
      → until ≤ given_at (due_at s)
  later j side port s l h next_s =
      elim (was-next c so_far f.switch.0 g.departure keeps.plan j side port s next_s) [
        | inr after ↦ own-later until g.departure.turn.end
            (given_at (due_at s)) g.departure.turn.too_old until_is after
        | inl was ↦
            (let le = found.are j side port s l h was.next in
            let is = found.is in
            let least : f.order ≤ order_of (due_at s) = elim (found.least j side) [
              | inl same ↦ (let e : found.order j side ≡ found.order f.switch.0 f.side =
                  ap (λ i. found.order i side) same.0 ∙ ap (found.order f.switch.0) same.1 in
                  omega (arith, le, is, e))
              | inr more ↦ elim more [
                | inl lt ↦ omega (arith, le, is, lt)
                | inr tie ↦ (let e = tie.0 in omega (arith, le, is, e))
              ]
            ] in
            given-later until s.end f.order s.too_old least high)
      ]

  comes-next : (lines : List Line)
      → IsBeforeLine (turn_place f.switch.0 g.departure.side
      (record { port = g.departure.port; turn = g.departure.turn })) lines
      → IsFirstDue c so_far lines (event_at f.switch.0 (Left g.departure))
  comes-next lines before =
      subst (λ h. IsFirstDue c so_far lines h) (sym same-event)
      (turn-next c so_far lines found.order f.switch.0 f.side
      (record { port = g.departure.port; turn = g.departure.turn })
      time ring found.are found.least next order_is keeps.stands.carried soonest
      (subst (λ s. IsBeforeLine
      (turn_place f.switch.0 s (record {
        port = g.departure.port;
        turn =
            g.departure.turn;
      })) lines)
      that.side_is before))

  within : (j port : ℕ) (e : End) → c.far_end j port ≡ Some e → e.switch < length networks
  within j port e joined = let w = keeps.within j port e joined in omega (arith, w, size)

  ended : IsLast c f.switch.0 g.departure → TurnIsNext c networks transit until so_far f.switch.0 value
  ended last = record {
    departure = g.departure;
    tells = g.tells;
    next = comes-next;
    given = until_is;
    ring = ring;
    keeps = record {
      plan = keeps.plan;
      within = within;
      stands = restamp c networks time until ring (event_at f.switch.0 (Left g.departure) ∷ so_far)
          (g.ended last).0 same-time;
      behind = behind;
      later = later;
      clock = clock;
      soon = elim same-time [
        | inl e ↦ inl e
        | inr same ↦ elim keeps.soon [ inl e ↦ inl e | inr le ↦ inr (omega (arith, same, le)) ]
      ];
    };
    in_transit = (g.ended last).1;
  }

  carried : (to : End) → g.departure.turn.too_old ≡ false → g.departure.turn.end ≤ 1000032768000000
      → c.far_end f.switch.0 g.departure.port ≡ Some to
      → TurnIsNext c networks transit until so_far f.switch.0 value
  carried to young soon joined =
      let r : OnCable = record {
        from = end_at f.switch.0 g.departure.port;
        side =
            g.departure.side;
        turn = g.departure.turn;
      } in
      let place : turn_place f.switch.0 f.side
      (record { port = g.departure.port; turn = g.departure.turn }) ≡ slot_place r =
      ap (λ b. g.departure.turn.end ∷ turn_phase b ∷ side_number f.side ∷ f.switch.0 ∷ g.departure.port ∷ []) young
      ∙ ap (λ s. g.departure.turn.end ∷ 0 ∷ side_number s ∷ f.switch.0 ∷ g.departure.port ∷ [])
      (sym that.side_is) in
      let at : (ring ≡ []) ⊎ (time ≡ g.departure.turn.end) =
      elim time_is [ inl e ↦ inl e | inr h ↦ inr h.0 ] in
      let now : until ≡ g.departure.turn.end =
      until_is ∙ ap (λ b. g.departure.turn.end + (if b then 1 else 0)) young ∙ omega arith in
      let below = joins-behind c so_far ring r
      (turn_event so_far f.switch.0 f.side
      (record { port = g.departure.port; turn = g.departure.turn }))
      (all-ends ring at keeps.stands.carried.at_time) keeps.behind
      (subst (λ p. IsTurnDue c so_far p
      (turn_event so_far f.switch.0 f.side
      (record { port = g.departure.port; turn = g.departure.turn }))) place own-due) in
      let more = g.carried to young soon joined at below in
      record {
        departure = g.departure;
        tells = g.tells;
        next = comes-next;
        given = until_is;
        ring = ring ++ r ∷ [];
        keeps = record {
          plan = keeps.plan;
          within = within;
          stands = subst (λ t. Stands c networks t (ring ++ r ∷ [])
              (event_at f.switch.0 (Left g.departure) ∷ so_far))
              (sym now) more.0;
          behind = all-pushed
              (λ z. (p : List ℕ) (h : SwitchEvent)
              → IsTurnDue c (event_at f.switch.0 (Left g.departure) ∷ so_far) p h
              → is_below (slot_place z) p ≡ true) ring r behind (own-behind r place refl);
          later = later;
          clock = clock;
          soon = inr (omega (arith, now, soon));
        };
        in_transit = more.1;
      }
    where
      all-ends : (zs : List OnCable) → (zs ≡ []) ⊎ (time ≡ g.departure.turn.end)
          → AllByRecursion (λ z. z.turn.end ≡ time) zs
          → AllByRecursion (λ z. z.turn.end ≡ g.departure.turn.end) zs
      all-ends [] e all = tt
      all-ends (z ∷ zs) (inl e) all = absurd (cc e)
      all-ends (z ∷ zs) (inr e) all =
          subst (λ t. AllByRecursion (λ y. y.turn.end ≡ t) (z ∷ zs)) e all

      own-behind : (r : OnCable)
          → turn_place f.switch.0 f.side (record { port = g.departure.port; turn = g.departure.turn })
          ≡ slot_place r
          → r.turn.end ≡ g.departure.turn.end
          → (p : List ℕ) (h : SwitchEvent)
          → IsTurnDue c (event_at f.switch.0 (Left g.departure) ∷ so_far) p h
          → is_below (slot_place r) p ≡ true
      own-behind r place same = (subst (λ h. AreDueAfter c (h ∷ so_far) (r ∷ [])) (sym same-event)
          (turn-behind c so_far (r ∷ []) f.switch.0 f.side
          (record { port = g.departure.port; turn = g.departure.turn }) keeps.plan (
            (λ p h due. subst (λ q. (h ≡ turn_event so_far f.switch.0 f.side
                (record { port = g.departure.port; turn = g.departure.turn }))
                ⊎ (is_below q p ≡ true)) place (first p h (inl due))),
            tt,
          )
          (omega (arith, same), tt))).0

  all-goes-on : TurnIsNext c networks transit until so_far f.switch.0 value
  all-goes-on = elim (cases_Bool g.departure.turn.too_old) [
    | inl old_one ↦ ended (inl old_one)
    | inr young ↦ elim (cases_lt 1000032768000000 g.departure.turn.end) [
      | inl late ↦ ended (inr (inr late))
      | inr soon ↦ by-end (c.far_end f.switch.0 g.departure.port) refl young soon
    ]
  ]
    where
      by-end : (o : Option End) → c.far_end f.switch.0 g.departure.port ≡ o
          → g.departure.turn.too_old ≡ false
          → g.departure.turn.end ≤ 1000032768000000
          → TurnIsNext c networks transit until so_far f.switch.0 value
      by-end None free young soon = ended (inr (inl free))
      by-end (Some to) joined young soon = carried to young soon joined

pub turn-keeps : TurnKeeps
turn-keeps c so_far old networks transit time until ring f value keeps is small early low high g size clock =
    all-goes-on c so_far old networks transit time until ring f value keeps is small early low high g size clock
