-- What the scan of all switches finds is what comes first.
use Rattle.std.specs.Prelude.{◌≡◌, ℕ, ◌≤◌, Some, List, [], length, slice_get}
use Rattle.afdx_frame.specs.declared.link.Side.{Side}
use Rattle.afdx_port.specs.Ports.{order_without_turn}
use Rattle.afdx_network.specs.Network as network
use Rattle.afdx_network.specs.declared.network.Network.{Network}
use Rattle.afdx_cascade.specs.SwitchEvents.{Plan, SwitchEvent, at_switch}
use Rattle.afdx_cascade.specs.Due.{AreOrders, IsLeastOf, IsRing}
use Rattle.afdx_cascade.specs.Runs.{IsDue}
use Rattle.afdx_cascade.specs.Scan.{IsFirstFrom}
use Rattle.afdx_cascade.specs.declared.scan.FirstTurn.{FirstTurn}

-- the networks stand for what happened at their switches, and nothing happened at others
pub record AllStand (c : Plan) (ns : List Network) (so_far : List SwitchEvent) : Type 0 where
  pub each : (k : ℕ) (n : Network) →
      slice_get ns k ≡ Some n →
      network.StandsFor (c.tables k) n (at_switch k so_far)
  pub others : (k : ℕ) → length ns ≤ k → at_switch k so_far ≡ []

-- each side's switch has an order number, and this is the least
pub record FindsLeast (c : Plan) (so_far : List SwitchEvent) (f : FirstTurn) : Type 0 where
  pub order : ℕ → Side → ℕ
  pub are : AreOrders c so_far order
  pub is : f.order ≡ order f.switch.0 f.side
  pub least : IsLeastOf order f.switch.0 f.side

-- The first of the turns that the networks tell is the least.
abbrev pub ScanFindsLeast : Type 0
ScanFindsLeast =
    (c : Plan) (so_far : List SwitchEvent) (ns : List Network) (f : FirstTurn) →
    AllStand c ns so_far →
    IsFirstFrom 0 ns (Some f) →
    FindsLeast c so_far f

-- Where the least number is that of no turn, and the ring is empty, nothing is due: these were all
-- events.
abbrev pub NothingIsDue : Type 0
NothingIsDue =
    (c : Plan) (so_far : List SwitchEvent) (ns : List Network) (f : FirstTurn) (time : ℕ) →
    AllStand c ns so_far →
    IsFirstFrom 0 ns (Some f) →
    order_without_turn ≤ f.order →
    IsRing c so_far time [] →
    (place : List ℕ) (g : SwitchEvent) →
    IsDue c so_far place g →
    ⊥
