-- The first turn of all is given at its time.
use Rattle.std.proofs.Common.{◌≡◌, ℕ, Bool, true, false, ◌+◌, ◌*◌, ◌<◌, ◌≤◌, inl, inr, List, []}
use Rattle.std.proofs.Common.{◌∷◌, length, refl, sym, ap, ◌∙◌, subst, arith}
use Rattle.std.specs.Prelude.{Some, None, IfSome, Option, slice_get, if◌then◌else◌}
use Rattle.std.specs.List.{AllByRecursion}
use Rattle.afdx_port.specs.declared.left.Left.{Left}
use Rattle.afdx_port.specs.Due.{given_at, IsAfter}
use Rattle.afdx_port.specs.declared.left.Due.{Due}
use Rattle.afdx_port.specs.Ports.{order_at, order_without_turn}
use Rattle.afdx_switch.specs.Departures.{as_given}
use Rattle.afdx_switch.specs.HeldFrames.{HeldFrame}
use Rattle.afdx_switch.specs.Verdicts.{shape_fault}
use Rattle.afdx_network.specs.Network as network
use Rattle.afdx_network.specs.declared.network.Network.{Network}
use Rattle.afdx_cascade.specs.SwitchEvents.{Plan, End, SwitchEvent, end_at}
use Rattle.afdx_cascade.specs.Due.{OnCable}
use Rattle.afdx_cascade.specs.Scan.{IsFirstFrom}
use Rattle.afdx_cascade.specs.Cables.{brought}
use Rattle.afdx_cascade.specs.Keeping.{Keeps, IsEarly, IsFrontNext, BringsNext, LacksForFront, LacksForTurn}
use Rattle.afdx_cascade.specs.Standing.{Stands}
use Rattle.afdx_cascade.specs.Turning.{AreInTransit, IsInTransit, CanArrive, ArrivesAt, switch_of}
use Rattle.afdx_cascade.specs.declared.told.Happened.{Happened}
use Rattle.afdx_cascade.specs.declared.cable.InTransit.{InTransit}
use Rattle.afdx_cascade.specs.declared.scan.FirstTurn.{FirstTurn}
use Rattle.afdx_cascade.proofs.ComesLemmas.{scan-comes, told-from, quiet-then}
use Rattle.afdx_cascade.proofs.FrontLemmas.{front-can, front-first, front-keeps}
use Rattle.afdx_cascade.proofs.LaterLemmas.{given-is}
use Rattle.afdx_cascade.proofs.RingLemmas.{turn-next}
use Rattle.afdx_cascade.proofs.ScanLemmas.{scan-least}

pub until-more : (n : Network) (time at : ℕ) → time ≤ at → network.IsUntil n time
    → network.IsUntil n at
until-more n time at le is = record {
  on_a = (let a = is.on_a in omega (arith, a, le));
  on_b = (let b = is.on_b in omega (arith, b, le));
}

module _ (c : Plan) (networks : List Network) (time : ℕ) (ring : List OnCable)
    (so_far : List SwitchEvent) (f : FirstTurn)
    (at : ℕ) (keeps : Keeps c networks time ring so_far) (is : IsFirstFrom 0 networks (Some f))
    (small : f.order < order_without_turn) (low : f.order ≤ 2 * at) (high : 2 * at
    ≤ f.order + 1) where
  pub first-within : f.switch.0 < length networks
  first-within =
      let comes = scan-comes c so_far networks f keeps.stands.all is small in
      let b = comes.below in let s = comes.switch_is in omega (arith, b, s)

  pub time-by : time ≤ at
  time-by =
      let comes = scan-comes c so_far networks f keeps.stands.all is small in
      let given = given-is at comes.gone.turn.end f.order comes.gone.turn.too_old comes.order_is low high in
      let later = keeps.later f.switch.0 f.side comes.gone.port comes.gone.turn comes.next.port_first
      comes.next.port_last comes.next.next in
      omega (arith, given, later)

  -- and comes next, where no cable has a frame of an earlier time
  pub turn-lacks : (until : ℕ) → at ≤ until → IsEarly f.order time ring → LacksForTurn c until so_far f.switch.0
  turn-lacks until soon early =
      let comes = scan-comes c so_far networks f keeps.stands.all is small in
      let found = scan-least c so_far networks f keeps.stands.all is in
      let given = given-is at comes.gone.turn.end f.order comes.gone.turn.too_old comes.order_is low high in
      record {
        side = f.side;
        gone = comes.gone;
        in_time = omega (arith, given, soon);
        next = λ lines before.
            turn-next c so_far lines found.order f.switch.0 f.side comes.gone time ring found.are found.least comes.next
            (sym found.is ∙ comes.order_is) keeps.stands.carried
            (elim early [ inl e ↦ inl e | inr le ↦ inr (let o = found.is in omega (arith, le, o)) ]) before;
      }

-- ---- the front frame

-- in the program's list it is the front one
record Fronts (c : Plan) (transit : List InTransit) (time order : ℕ)
    (ring : List OnCable) : Type 0 where
  pub v : InTransit
  pub behind : List InTransit
  pub r : OnCable
  pub rest : List OnCable
  pub transit_is : transit ≡ v ∷ behind
  pub ring_is : ring ≡ r ∷ rest
  pub on : IsInTransit c v r
  pub front_is : slice_get transit 0 ≡ Some v
  pub end_is : (as_given v.departure).end ≡ time
  pub late : 2 * time < order

fronts-from : (c : Plan) (transit : List InTransit) (time order : ℕ) (ring : List OnCable)
    → AllByRecursion (λ z. z.turn.end ≡ time) ring → AreInTransit c transit ring
    → IsFrontNext transit order
    → Fronts c transit time order ring
fronts-from c [] time order ring ends are late = absurd late
fronts-from c (v ∷ behind) time order [] ends are late = absurd are
fronts-from c (v ∷ behind) time order (r ∷ rest) ends are late =
    let end : (as_given v.departure).end ≡ time =
    ap (λ (l : Left HeldFrame). l.end) are.0.left ∙ ends.0 in
    record {
      v = v;
      behind = behind;
      r = r;
      rest = rest;
      transit_is = refl;
      ring_is = refl;
      on = are.0;
      front_is = refl;
      end_is = end;
      late = omega (arith, late, end);
    }

-- what is asked of the front
pub front-limit : (c : Plan) (networks : List Network) (time : ℕ) (ring : List OnCable)
    (so_far : List SwitchEvent)
    (transit : List InTransit) → Keeps c networks time ring so_far → AreInTransit c transit ring
    → (v : InTransit) → slice_get transit 0 ≡ Some v
    → (as_given v.departure).end ≤ 1000032768000000
front-limit c networks time ring so_far [] keeps are v here = absurd (cc here)
front-limit c networks time [] so_far (w ∷ behind) keeps are v here = absurd are
front-limit c networks time (r ∷ rest) so_far (w ∷ behind) keeps are v here =
    let same : w ≡ v = cc here in
    let end : (as_given w.departure).end ≡ time =
    ap (λ (l : Left HeldFrame). l.end) are.0.left ∙ keeps.stands.carried.at_time.0 in
    subst (λ (z : InTransit). (as_given z.departure).end ≤ 1000032768000000) same
    (elim keeps.soon [ inl none ↦ absurd (cc none) | inr le ↦ omega (arith, end, le) ])

module _ (c : Plan) (networks : List Network) (time : ℕ) (ring : List OnCable)
    (so_far : List SwitchEvent) (f : FirstTurn)
    (transit : List InTransit) (keeps : Keeps c networks time ring so_far)
    (is : IsFirstFrom 0 networks (Some f))
    (are : AreInTransit c transit ring) (next : IsFrontNext transit f.order) where
  pub front-asked : (v : InTransit) × (behind : List InTransit) × (transit ≡ v ∷ behind)
      × CanArrive networks v
      × ((k : ℕ) (n : Network) → slice_get networks k ≡ Some n
      → network.IsUntil n (as_given v.departure).end)
  front-asked =
      let p = fronts-from c transit time f.order ring keeps.stands.carried.at_time are next in (
        p.v,
        p.behind,
        p.transit_is,
        front-can c so_far networks time p.r p.rest f p.v
            (subst (λ zs. Keeps c networks time zs so_far) p.ring_is keeps) is p.late p.on,
        λ k n at. subst (λ t. network.IsUntil n t) (sym p.end_is) (keeps.clock k n at),
      )

  -- it comes next, and has nothing wrong in its shape
  pub front-lacks : ((v : InTransit) (r : OnCable) (rest : List OnCable) → Stands c networks time (r ∷ rest) so_far
      → slice_get transit 0 ≡ Some v → IsInTransit c v r
      → shape_fault (c.tables v.switch.0) (brought r.side v.port r.turn) ≡ None)
      → LacksForFront c ring so_far
  front-lacks sound =
      let p = fronts-from c transit time f.order ring keeps.stands.carried.at_time are next in
      let all : Keeps c networks time (p.r ∷ p.rest) so_far =
      subst (λ zs. Keeps c networks time zs so_far) p.ring_is keeps in
      record {
        r = p.r;
        rest = p.rest;
        are = p.ring_is;
        to = end_at p.v.switch.0 p.v.port;
        next = λ lines before.
            front-first c so_far networks time p.r p.rest f (end_at p.v.switch.0 p.v.port) all is p.late p.on.to lines
            before;
        sound = sound p.v p.r p.rest all.stands p.front_is p.on;
      }

  pub front-brings : (new : List Network) (left : List InTransit) (value : Happened)
      → ((r : OnCable) (rest : List OnCable) → Stands c networks time (r ∷ rest) so_far
      → AreInTransit c transit (r ∷ rest) → ArrivesAt c new left time r rest so_far value)
      → length new ≡ length networks
      → ((v : InTransit) → slice_get transit 0 ≡ Some v → (k : ℕ) (n : Network)
      → slice_get new k ≡ Some n
      → network.IsUntil n (as_given v.departure).end)
      → ((v : InTransit) → slice_get transit 0 ≡ Some v → (n : Network)
      → slice_get new v.switch.0 ≡ Some n
      → network.IsQuiet n (as_given v.departure).end)
      → BringsNext c new left time ring so_far value
  front-brings new left value arrives size clock still =
      let p = fronts-from c transit time f.order ring keeps.stands.carried.at_time are next in
      let all : Keeps c networks time (p.r ∷ p.rest) so_far =
      subst (λ zs. Keeps c networks time zs so_far) p.ring_is keeps in
      let arrived = arrives p.r p.rest all.stands
      (subst (λ zs. AreInTransit c transit zs) p.ring_is are) in
      let ends : end_at p.v.switch.0 p.v.port ≡ end_at arrived.at.switch.0 arrived.at.port =
      same-end p.on.to arrived.to in
      let switch : p.v.switch.0 ≡ switch_of value =
      ap (λ (e : End). e.switch) ends ∙ sym (ap switch_of arrived.is) in
      record {
        r = p.r;
        rest = p.rest;
        are = p.ring_is;
        is = front-keeps c so_far networks new left time p.r p.rest f value all is p.late arrived size
            (λ k n at. subst (λ t. network.IsUntil n t) p.end_is (clock p.v p.front_is k n at))
            (λ n at. subst (λ t. network.IsQuiet n t) p.end_is
            (still p.v p.front_is n (subst (λ j. slice_get new j ≡ Some n) (sym switch) at)));
      }
    where
      same-end : {o : Option End} {a b : End} → o ≡ Some a → o ≡ Some b → a ≡ b
      same-end x y = cc

-- ---- nothing is given by then

late-due : (time order : ℕ) (o : Option Due) → order ≡ order_at o → order_without_turn ≤ order
    → IfSome o (λ d. given_at d ≤ 1200000000000000) → IfSome o (λ d. IsAfter time d)
late-due time order None is late limit = tt
late-due time order (Some d) is late limit = absurd (by d.too_old is limit)
  where
    by : (b : Bool) → order ≡ 2 * d.time + (if b then 1 else 0)
        → d.time + (if b then 1 else 0) ≤ 1200000000000000 → ⊥
    by true e l = omega (arith, e, l, late)
    by false e l = omega (arith, e, l, late)

pub quiet-end : (networks : List Network) (f : FirstTurn) (time : ℕ) → IsFirstFrom 0 networks (Some f)
    → order_without_turn ≤ f.order → (k : ℕ) (n : Network) → slice_get networks k ≡ Some n
    → network.IsQuiet n time
quiet-end networks f time is late k n here =
    let told = told-from 0 networks f is k n here in
    let le = told.least in
    let a = told.tells.first.least_a in
    let b = told.tells.first.least_b in
    record {
      on_a = (told.tells.tells_a.tells.quiet time).1
          (late-due time told.tells.a told.tells.tells_a.due
          told.tells.tells_a.is (omega (arith, late, le, a)) told.tells.tells_a.tells.limit);
      on_b = (told.tells.tells_b.tells.quiet time).1
          (late-due time told.tells.b told.tells.tells_b.due
          told.tells.tells_b.is (omega (arith, late, le, b)) told.tells.tells_b.tells.limit);
    }

pub quiet-by : (networks : List Network) (f : FirstTurn) (time at : ℕ) → IsFirstFrom 0 networks (Some f)
    → time < at
    → 2 * at ≤ f.order + 1 → (k : ℕ) (n : Network) → slice_get networks k ≡ Some n
    → network.IsQuiet n time
quiet-by networks f time at is lt high k n here =
    quiet-then n f time (told-from 0 networks f is k n here) (omega (arith, lt, high))
