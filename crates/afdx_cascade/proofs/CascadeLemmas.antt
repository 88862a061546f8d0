-- What comes next of a cascade is told, and it stands for it too.
use Rattle.std.proofs.Common.{◌≡◌, ℕ, ◌+◌, ◌≤◌, Bool, true, false, List, [], ◌∷◌, length, refl}
use Rattle.std.proofs.Common.{sym, ap, ◌∙◌, subst, arith}
use Rattle.std.specs.Prelude.{if◌then◌else◌, Option, Some, None, IfSome, IfNone, slice_get}
use Rattle.std.specs.List.{AllByRecursion}
use Rattle.afdx_config.specs.Switches.{NamedRows, AreSwitches}
use Rattle.afdx_police.specs.Arrival.{Arrival}
use Rattle.afdx_port.specs.Times.{drain_end}
use Rattle.afdx_port.specs.declared.left.Left.{Left as LeftOver}
use Rattle.afdx_switch.specs.Departures.{as_given}
use Rattle.afdx_switch.specs.HeldFrames.{HeldFrame}
use Rattle.afdx_switch.specs.Verdicts.{shape_fault}
use Rattle.afdx_switch.specs.declared.verdict.Verdict.{Verdict}
use Rattle.afdx_network.specs.Events.{Departure, Event, Left, Came as CameHere, admission_after}
use Rattle.afdx_network.specs.Network as network
use Rattle.afdx_network.specs.Order.{side_number}
use Rattle.afdx_network.specs.declared.network.Network.{Network}
use Rattle.afdx_network.proofs.OrderLemmas.{below_first, below_next}
use Rattle.afdx_cascade.specs.Cables.{brought}
use Rattle.afdx_cascade.specs.Cascade.{StandsFor, IsUntil, IsQuiet, IsUnchanged, AreFrom}
use Rattle.afdx_cascade.specs.Cascade.{GivesNext, GivesNone, ArrivesNext, IsToCome, TellsEvent}
use Rattle.afdx_cascade.specs.Due.{OnCable, IsRing, turn_event}
use Rattle.afdx_cascade.specs.Found.{AllStand}
use Rattle.afdx_cascade.specs.Keeping.{Keeps, BringsNext, TurnsNext, IsNothingDue}
use Rattle.afdx_cascade.specs.Keeping.{LacksForFront, LacksForTurn}
use Rattle.afdx_cascade.specs.Keys.{AreKeys, IsLeast}
use Rattle.afdx_cascade.specs.Plans.{plan_of, tables_of}
use Rattle.afdx_cascade.specs.Runs.{Line, IsBeforeLine, arriving, event_at, turn_phase}
use Rattle.afdx_cascade.specs.Standing.{Stands}
use Rattle.afdx_cascade.specs.SwitchEvents.{Plan, SwitchEvent, came_to}
use Rattle.afdx_cascade.specs.Turning.{AreEnds, AreInTransit, TellsTurn}
use Rattle.afdx_cascade.specs.declared.cable.InTransit.{InTransit}
use Rattle.afdx_cascade.specs.declared.cascade.Cascade.{Cascade}
use Rattle.afdx_cascade.specs.declared.told.Happened.{Happened}
use Rattle.afdx_cascade.specs.declared.told.Happened.TheVariants.{Ended, Carried, Came}
use Rattle.afdx_cascade.proofs.FrontLemmas.{due-later, line-keeps, start-keeps}
use Rattle.afdx_cascade.proofs.InsideLemmas.{all-inside}
use Rattle.afdx_cascade.proofs.NextLemmas.{until-more}
use Rattle.afdx_cascade.proofs.PlanLemmas.{switches-plan}

pub some-of : {X : Type 0} (o : Option X) (P : X → Type 0) (x : X) → o ≡ Some x → IfSome o P → P x
some-of o P x e h = subst (λ z. IfSome z P) e h

pub none-of : {X : Type 0} (o : Option X) (P : Type 0) → o ≡ None → IfNone o P → P
none-of o P e h = subst (λ z. IfNone z P) e h

-- what is told of a turn is told of its event
turn-tells : (c : Plan) (so_far : List SwitchEvent) (k : ℕ) (value : Happened) (d : Departure)
    → TellsTurn c k value d → TellsEvent c so_far value (event_at k (Left d))
turn-tells c so_far k (Ended at v) d tells = (d, ap (λ j. event_at j (Left d)) (sym tells.0), tells.1)
turn-tells c so_far k (Carried at time tag) d tells = (d, ap (λ j. event_at j (Left d)) (sym tells.0), tells.1)
turn-tells c so_far k (Came at time tag verdict early) d tells = absurd tells

-- ---- before the list's next frame

frame-line : (t until : ℕ) (ms : List ℕ) (lines : List Line) → t ≤ until → AreFrom until lines
    → IsBeforeLine (t ∷ 1 ∷ ms) lines
frame-line t until ms [] le from = tt
frame-line t until ms (line ∷ lines) le from =
    below_next t line.arrival.time (1 ∷ ms) (2 ∷ []) (omega (arith, le, from))
    (below_first 1 2 ms [] (omega arith))

turn-line : (end until : ℕ) (old : Bool) (ms : List ℕ) (lines : List Line)
    → end + (if old then 1 else 0) ≤ until → AreFrom until lines
    → IsBeforeLine (end ∷ turn_phase old ∷ ms) lines
turn-line end until old ms [] le from = tt
turn-line end until true ms (line ∷ lines) le from =
    below_first end line.arrival.time (3 ∷ ms) (2 ∷ []) (omega (arith, le, from))
turn-line end until false ms (line ∷ lines) le from =
    below_next end line.arrival.time (0 ∷ ms) (2 ∷ []) (omega (arith, le, from))
    (below_first 0 2 ms [] (omega arith))

-- ---- the times of frames on cables

ring-by : (c : Plan) (transit : List InTransit) (ring : List OnCable) (until : ℕ)
    → AreInTransit c transit ring
    → AllByRecursion (λ v. (as_given v.departure).end ≤ until) transit
    → AllByRecursion (λ r. r.turn.end ≤ until) ring
ring-by c [] [] until are by = tt
ring-by c [] (r ∷ ring) until are by = absurd are
ring-by c (v ∷ transit) [] until are by = absurd are
ring-by c (v ∷ transit) (r ∷ ring) until are by = (
  (let end : (as_given v.departure).end ≡ r.turn.end = ap (λ (l : LeftOver HeldFrame). l.end) are.0.left in
      let le = by.0 in omega (arith, end, le)),
  ring-by c transit ring until are.1 by.1,
)

transit-by : (c : Plan) (transit : List InTransit) (ring : List OnCable) (time until : ℕ)
    → time ≤ until → AllByRecursion (λ r. r.turn.end ≡ time) ring → AreInTransit c transit ring
    → AllByRecursion (λ v. (as_given v.departure).end ≤ until) transit
transit-by c [] [] time until soon ends are = tt
transit-by c [] (r ∷ ring) time until soon ends are = absurd are
transit-by c (v ∷ transit) [] time until soon ends are = absurd are
transit-by c (v ∷ transit) (r ∷ ring) time until soon ends are = (
  (let end : (as_given v.departure).end ≡ r.turn.end = ap (λ (l : LeftOver HeldFrame). l.end) are.0.left in
      let at = ends.0 in omega (arith, end, at, soon)),
  transit-by c transit ring time until soon ends.1 are.1,
)

-- a ring that is empty where its time is past
ring-empty : (ring : List OnCable) (time until : ℕ) → AllByRecursion (λ r. r.turn.end ≡ time) ring
    → AllByRecursion (λ r. r.turn.end ≤ until) ring → (time ≤ until → ring ≡ []) → ring ≡ []
ring-empty [] time until ends by none = refl
ring-empty (r ∷ ring) time until ends by none =
    none (let at = ends.0 in let le = by.0 in omega (arith, at, le))

no-ring : (c : Plan) (transit : List InTransit) (ring : List OnCable) → transit ≡ []
    → AreInTransit c transit ring → ring ≡ []
no-ring c [] [] e are = refl
no-ring c [] (r ∷ ring) e are = absurd are
no-ring c (v ∷ transit) ring e are = absurd (cc e)

no-transit : (c : Plan) (transit : List InTransit) → AreInTransit c transit [] → transit ≡ []
no-transit c [] are = refl
no-transit c (v ∷ transit) are = absurd are

-- ---- nothing has changed

pub stands-same : (c : Plan) (so_far : List SwitchEvent) (w new : Cascade) → StandsFor c w so_far
    → IsUnchanged w new → StandsFor c new so_far
stands-same c so_far w new st same = record {
  count = ap length same.networks ∙ st.count;
  some = st.some;
  few = st.few;
  inside = st.inside;
  time = st.time;
  ring = st.ring;
  keeps = subst (λ ns. Keeps c ns st.time st.ring so_far) (sym same.networks) st.keeps;
  keys = subst (λ ns. AreKeys ns new.keys.items) (sym same.networks)
      (subst (AreKeys w.networks.items) (sym same.keys) st.keys);
  least = subst (IsLeast new.keys.items) (sym same.least)
      (subst (λ ks. IsLeast ks w.least) (sym same.keys) st.least);
  ends = subst (AreEnds c) (sym same.ends) st.ends;
  in_transit = subst (λ vs. AreInTransit c vs st.ring) (sym same.transit) st.in_transit;
}

pub until-same : (w new : Cascade) (time : ℕ) → IsUntil w time → IsUnchanged w new → IsUntil new time
until-same w new time is same = record {
  networks = λ k n at. is.networks k n (subst (λ ns. slice_get ns k ≡ Some n) same.networks at);
  transit = subst (λ vs. AllByRecursion (λ v. (as_given v.departure).end ≤ time) vs)
      (sym same.transit) is.transit;
}

-- ---- the next event

module _ (c : Plan) (so_far : List SwitchEvent) (w new : Cascade) (until : ℕ)
    (st : StandsFor c w so_far) (by : IsUntil w until) (ends : new.ends.items ≡ w.ends.items)
    (size : length new.networks.items ≡ length w.networks.items)
    (keys : AreKeys new.networks.items new.keys.items)
    (least : IsLeast new.keys.items new.least) where
  -- a cable brought a frame
  module _ (value : Happened)
      (next : BringsNext c new.networks.items new.transit.items st.time st.ring so_far value) where
    soon : st.time ≤ until
    soon =
        let le = (subst (λ zs. AllByRecursion (λ r. r.turn.end ≤ until) zs) next.are
        (ring-by c w.transit.items st.ring until st.in_transit by.transit)).0 in
        let at = (subst (λ zs. AllByRecursion (λ r. r.turn.end ≡ st.time) zs) next.are
        st.keeps.stands.carried.at_time).0 in
        omega (arith, le, at)

    frame-soon : next.r.turn.end ≤ until
    frame-soon =
        (subst (λ zs. AllByRecursion (λ r. r.turn.end ≤ until) zs) next.are
        (ring-by c w.transit.items st.ring until st.in_transit by.transit)).0

    abbrev came : SwitchEvent
    came = arriving c so_far next.is.arrived.at.switch.0 (brought next.r.side next.is.arrived.at.port next.r.turn)

    came-tells : TellsEvent c so_far value came
    came-tells = subst (λ v. TellsEvent c so_far v came) (sym next.is.arrived.is) (
      (record {
        arrival = brought next.r.side next.is.arrived.at.port next.r.turn;
        is = refl;
        side = next.is.arrived.side;
        port = refl;
        tag_is = refl;
        tells = next.is.arrived.tells;
        was_early = next.is.arrived.was_early;
      }),
      refl,
    )

    pub came-next : GivesNext c new until so_far value
    came-next = record {
      event = came;
      next = λ lines from. next.is.next lines
          (frame-line next.r.turn.end until
          (side_number next.r.side ∷ next.r.from.switch ∷ next.r.from.port ∷ []) lines frame-soon from);
      tells = came-tells;
      stands = record {
        count = size ∙ st.count;
        some = st.some;
        few = st.few;
        time = st.time;
        inside = all-inside c new.networks.items
            (came ∷ so_far)
            next.is.keeps.stands.all (size ∙ st.count);
        ring = next.rest;
        keeps = next.is.keeps;
        keys = keys;
        least = least;
        ends = subst (AreEnds c) (sym ends) st.ends;
        in_transit = next.is.in_transit;
      };
      clock = record {
        networks = λ k n at. until-more n st.time until soon (next.is.keeps.clock k n at);
        transit = transit-by c new.transit.items next.rest st.time until soon
            next.is.keeps.stands.carried.at_time next.is.in_transit;
      };
    }

  -- a turn is over
  module _ (k : ℕ) (value : Happened)
      (next : TurnsNext c new.networks.items new.transit.items until so_far k value) where
    pub over-next : GivesNext c new until so_far value
    over-next = record {
      event = event_at k (Left next.is.departure);
      next = λ lines from. next.is.next lines
          (turn-line next.is.departure.turn.end until next.is.departure.turn.too_old
          (side_number next.is.departure.side ∷ k ∷ next.is.departure.port ∷ []) lines
          (let given = next.is.given in let soon = next.in_time in omega (arith, given, soon)) from);
      tells = turn-tells c so_far k value next.is.departure next.is.tells;
      stands = record {
        count = size ∙ st.count;
        some = st.some;
        few = st.few;
        time = next.at;
        inside = all-inside c new.networks.items (event_at k (Left next.is.departure) ∷ so_far)
            next.is.keeps.stands.all (size ∙ st.count);
        ring = next.is.ring;
        keeps = next.is.keeps;
        keys = keys;
        least = least;
        ends = subst (AreEnds c) (sym ends) st.ends;
        in_transit = next.is.in_transit;
      };
      clock = record {
        networks = λ j n at. until-more n next.at until next.in_time (next.is.keeps.clock j n at);
        transit = transit-by c new.transit.items next.is.ring next.at until next.in_time
            next.is.keeps.stands.carried.at_time next.is.in_transit;
      };
    }

-- ---- nothing comes next

pub none-next : (c : Plan) (so_far : List SwitchEvent) (w new : Cascade) (until : ℕ)
    (st : StandsFor c w so_far) → IsUntil w until → IsUnchanged w new
    → (st.time ≤ until → st.ring ≡ [])
    → ((k : ℕ) (n : Network) → slice_get new.networks.items k ≡ Some n → network.IsQuiet n until)
    → (drain_end ≤ until → IsNothingDue c so_far) → GivesNone c new until so_far
none-next c so_far w new until st by same none quiet done =
    let empty = ring-empty st.ring st.time until st.keeps.stands.carried.at_time
    (ring-by c w.transit.items st.ring until st.in_transit by.transit) none in
    record {
      none = due-later c so_far new.networks.items st.time until
          (subst (λ ns. AllStand c ns so_far) (sym same.networks) st.keeps.stands.all)
          (subst (λ zs. IsRing c so_far st.time zs) empty st.keeps.stands.carried) quiet;
      all_done = done;
      stands = stands-same c so_far w new st same;
      clock = until-same w new until by same;
      quiet = record {
        networks = quiet;
        transit = same.transit ∙ no-transit c w.transit.items
            (subst (λ zs. AreInTransit c w.transit.items zs) empty st.in_transit);
      };
    }

-- ---- memory is lacked

-- what arrived, and whether it was an arrival
arrival_in : Arrival → Event → Arrival
arrival_in other (CameHere a) = a.arrival
arrival_in other (Left d) = other

is_arrival : Event → Bool
is_arrival (CameHere a) = true
is_arrival (Left d) = false

-- for the frame at the front
pub front-to-come : (c : Plan) (so_far : List SwitchEvent) (w : Cascade) (until : ℕ) (st : StandsFor c w so_far)
    → IsUntil w until → LacksForFront c st.ring so_far → IsToCome c until so_far
unfolding arrival_in
front-to-come c so_far w until st by lacks =
    let x = brought lacks.r.side lacks.to.port lacks.r.turn in
    let soon = (subst (λ zs. AllByRecursion (λ r. r.turn.end ≤ until) zs) lacks.are
    (ring-by c w.transit.items st.ring until st.in_transit by.transit)).0 in
    record {
      event = arriving c so_far lacks.to.switch x;
      next = λ lines from. lacks.next lines
          (frame-line lacks.r.turn.end until
          (side_number lacks.r.side ∷ lacks.r.from.switch ∷ lacks.r.from.port ∷ []) lines soon from);
      sound = λ k y same.
          (let switch : lacks.to.switch ≡ k = ap (λ (h : SwitchEvent). h.switch) same in
          let arrival : x ≡ y = ap (λ (h : SwitchEvent). arrival_in x h.event) same in
          subst (λ j. shape_fault (c.tables j) y ≡ None) switch
          (subst (λ z. shape_fault (c.tables lacks.to.switch) z ≡ None) arrival lacks.sound));
    }

-- for a turn
pub turn-to-come : (c : Plan) (so_far : List SwitchEvent) (until k : ℕ) → LacksForTurn c until so_far k
    → IsToCome c until so_far
unfolding is_arrival
turn-to-come c so_far until k lacks = record {
  event = turn_event so_far k lacks.side lacks.gone;
  next = λ lines from. lacks.next lines
      (turn-line lacks.gone.turn.end until lacks.gone.turn.too_old
      (side_number lacks.side ∷ k ∷ lacks.gone.port ∷ []) lines lacks.in_time from);
  sound = λ j x same.
      absurd (let no : false ≡ true = ap (λ (h : SwitchEvent). is_arrival h.event) same in cc no);
}

-- ---- a frame of the list

pub line-next : (c : Plan) (so_far : List SwitchEvent) (w new : Cascade) (line : Line)
    (st : StandsFor c w so_far) → IsQuiet w line.arrival.time → IsUntil w line.arrival.time
    → c.far_end line.switch line.arrival.port ≡ None → new.ends.items ≡ w.ends.items
    → new.transit.items ≡ w.transit.items → (ns : List Network) → new.networks.items ≡ ns
    → length ns ≡ length w.networks.items
    → AreKeys ns new.keys.items → IsLeast new.keys.items new.least
    → ((k : ℕ) (n : Network) → slice_get ns k ≡ Some n → network.IsUntil n line.arrival.time)
    → ((n : Network) → slice_get ns line.switch ≡ Some n → network.IsQuiet n line.arrival.time)
    → (verdict : Verdict)
    → Stands c ns st.time st.ring (arriving c so_far line.switch line.arrival ∷ so_far)
    → network.Tells verdict (admission_after (c.tables line.switch) (came_to line.switch so_far) line.arrival)
    → ArrivesNext c new so_far line verdict
line-next c so_far w new line st quiet by free ends transit ns is size keys least clock still verdict stands tells =
    let empty = no-ring c w.transit.items st.ring quiet.transit st.in_transit in
    let next = line-keeps c so_far w.networks.items ns st.time line
    (subst (λ zs. Keeps c w.networks.items st.time zs so_far) empty st.keeps) quiet.networks free
    (subst (λ zs. Stands c ns st.time zs
    (arriving c so_far line.switch line.arrival ∷ so_far)) empty stands)
    size clock still in
    record {
      next = next.next;
      tells = tells;
      brought = next.keeps.stands.carried.carries;
      stands = record {
        count = ap length is ∙ size ∙ st.count;
        some = st.some;
        few = st.few;
        inside = all-inside c ns (arriving c so_far line.switch line.arrival ∷ so_far)
            stands.all (size ∙ st.count);
        time = line.arrival.time;
        ring = [];
        keeps = subst (λ zs. Keeps c zs line.arrival.time []
            (arriving c so_far line.switch line.arrival ∷ so_far)) (sym is) next.keeps;
        keys = subst (λ zs. AreKeys zs new.keys.items) (sym is) keys;
        least = least;
        ends = subst (AreEnds c) (sym ends) st.ends;
        in_transit = subst (λ vs. AreInTransit c vs []) (sym (transit ∙ quiet.transit)) tt;
      };
      clock = record {
        networks = λ k n at. clock k n (subst (λ zs. slice_get zs k ≡ Some n) is at);
        transit = subst (λ vs. AllByRecursion (λ v. (as_given v.departure).end ≤ line.arrival.time) vs)
            (sym transit) by.transit;
      };
    }

-- ---- the start

pub new-stands : (ss : List NamedRows) → AreSwitches ss → (w : Cascade)
    → length w.networks.items ≡ length ss
    → ((k : ℕ) (n : Network) → slice_get w.networks.items k ≡ Some n → network.StandsFor (tables_of ss k) n [])
    → ((k : ℕ) (n : Network) → slice_get w.networks.items k ≡ Some n → network.IsUntil n 0)
    → AreKeys w.networks.items w.keys.items → IsLeast w.keys.items w.least
    → AreEnds (plan_of ss) w.ends.items → w.transit.items ≡ []
    → StandsFor (plan_of ss) w []
new-stands ss are w size each clock keys least ends none =
    let plan = switches-plan ss are in
    record {
      count = size;
      some = are.count.0;
      few = are.count.1;
      inside = tt;
      time = 0;
      ring = [];
      keeps = start-keeps (plan_of ss) w.networks.items plan.0
          (λ k port e joined. (let within = plan.1.to k port e joined in omega (arith, within, size)))
          each clock;
      keys = keys;
      least = least;
      ends = ends;
      in_transit = subst (λ vs. AreInTransit (plan_of ss) vs []) (sym none) tt;
    }

pub new-until : (w : Cascade)
    → ((k : ℕ) (n : Network) → slice_get w.networks.items k ≡ Some n → network.IsUntil n 0)
    → w.transit.items ≡ [] → IsUntil w 0
new-until w clock none = record {
  networks = clock;
  transit = subst (λ vs. AllByRecursion (λ v. (as_given v.departure).end ≤ 0) vs) (sym none) tt;
}
