-- A turn, after which its frame may be on a cable.
use Rattle.std.proofs.Common.{◌≡◌, ℕ, false, List, [], ◌∷◌, ◌++◌, refl, sym, subst, ap, ◌∙◌, inl, inr}
use Rattle.std.proofs.Common.{arith, ◌≤◌}
use Rattle.std.specs.Prelude.{Some, Result, Ok, Err, OnErr, drop, slice_get, slice_index_or}
use Rattle.afdx_switch.specs.Departures.{as_given, giving_side}
use Rattle.afdx_switch.specs.declared.switch.Departure.{Departure}
use Rattle.afdx_network.specs.declared.network.Network.{Network}
use Rattle.afdx_cascade.specs.Due.{OnCable}
use Rattle.afdx_cascade.specs.SwitchEvents.{Plan, End, SwitchEvent, end_at}
use Rattle.afdx_cascade.specs.Standing.{IsLast}
use Rattle.afdx_cascade.specs.Turning.{GivesAt, IsInTransit, AreInTransit, IsCarried, TurnsAt}
use Rattle.afdx_cascade.specs.declared.cable.InTransit.{InTransit}
use Rattle.afdx_cascade.specs.declared.told.SitedPort.{SitedPort}
use Rattle.afdx_cascade.specs.declared.told.Happened.TheVariants.{Ended, Carried}

pub transit-pushed : (c : Plan) (transit : List InTransit) (ring : List OnCable) (v : InTransit)
    (r : OnCable)
    → AreInTransit c transit ring → IsInTransit c v r
    → AreInTransit c (transit ++ v ∷ []) (ring ++ r ∷ [])
transit-pushed c [] [] v r are is = (is, tt)
transit-pushed c (w ∷ transit) (z ∷ ring) v r are is =
    (are.0, transit-pushed c transit ring v r are.1 is)
transit-pushed c [] (z ∷ ring) v r are is = absurd are
transit-pushed c (w ∷ transit) [] v r are is = absurd are

module _ (c : Plan) (networks : List Network) (transit : List InTransit) (time : ℕ)
    (ring : List OnCable)
    (so_far : List SwitchEvent) (k until : ℕ) (value : Departure)
    (g : GivesAt c networks time ring so_far k until value)
    (are : AreInTransit c transit ring) where
  not-last : (to : End) → g.departure.turn.too_old ≡ false → g.departure.turn.end ≤ 1000032768000000
      → c.far_end k g.departure.port ≡ Some to → IsLast c k g.departure → ⊥
  not-last to young soon joined (inl old) = cc
  not-last to young soon joined (inr (inl none)) = cc
  not-last to young soon joined (inr (inr late)) = omega (arith, soon, late)

  pub turns-ended : IsLast c k g.departure
      → TurnsAt c networks transit time ring so_far k until (Ended (record { 0 = k }) value)
  turns-ended silent = record {
    departure = g.departure;
    in_time = g.in_time;
    tells = (refl, g.hands);
    new = g.new;
    stands = g.stands;
    next = g.next;
    first = g.first;
    ended = λ is. (g.ended is, are);
    carried = λ to young soon joined early below. absurd (not-last to young soon joined silent);
  }

  pub turns-carried : (at : SitedPort) (when tag : ℕ) (v : InTransit) (grown : List InTransit)
      → at.switch.0 ≡ k → IsCarried c at when tag g.departure → v.departure ≡ value
      → g.departure.turn.too_old ≡ false → g.departure.turn.end ≤ 1000032768000000
      → c.far_end k g.departure.port ≡ Some (end_at v.switch.0 v.port)
      → grown ≡ transit ++ v ∷ [] → TurnsAt c networks grown time ring so_far k until (Carried at when tag)
  turns-carried at when tag v grown here carried own young soon joined is = record {
    departure = g.departure;
    in_time = g.in_time;
    tells = (here, carried);
    new = g.new;
    stands = g.stands;
    next = g.next;
    first = g.first;
    ended = λ silent. absurd (not-last (end_at v.switch.0 v.port) young soon joined silent);
    carried = λ to y t j early below. (
      g.carried to y t j early below,
      (let r : OnCable = record {
        from = end_at k g.departure.port;
        side = g.departure.side;
        turn =
            g.departure.turn;
      } in
          subst (λ w. AreInTransit c w (ring ++ r ∷ [])) (sym is)
          (transit-pushed c transit ring v r are (record {
            to = joined;
            side = ap giving_side own ∙ g.hands.side;
            left = ap as_given own ∙ g.hands.left;
          }))),
    );
  }

-- ---- the frame at the front

-- what holds, where memory is lacked too
pub on-err : {V E : Type 0} (r : Result V E) (P : Type 0) → P → OnErr r P
on-err (Ok v) P holds = tt
on-err (Err e) P holds = holds

-- the one at the front
pub front-one : (transit : List InTransit) (v front : InTransit) → slice_get transit 0 ≡ Some v
    → front ≡ slice_index_or transit 0 front → v ≡ front
front-one [] v front here is = absurd (cc here)
front-one (w ∷ transit) v front here is = (let same : w ≡ v = cc here in sym same ∙ sym is)

pub split-transit : (c : Plan) (transit : List InTransit) (v : InTransit) (r : OnCable)
    (rest : List OnCable)
    → AreInTransit c transit (r ∷ rest) → v ≡ slice_index_or transit 0 v
    → IsInTransit c v r × AreInTransit c (drop 1 transit) rest
split-transit c [] v r rest are is = absurd are
split-transit c (w ∷ transit) v r rest are is =
    (subst (λ z. IsInTransit c z r) (sym is) are.0, are.1)
