-- The order numbers that the networks tell.
use Rattle.std.proofs.Common.{◌≡◌, ℕ, zero, suc, ◌+◌, ◌*◌, ◌<◌, ◌≤◌, Bool, true, false, List, [], ◌∷◌}
use Rattle.std.proofs.Common.{length, refl, subst, arith}
use Rattle.std.specs.Prelude.{if◌then◌else◌, Option, Some, None, slice_get, IfSome}
use Rattle.afdx_frame.specs.declared.link.Side.{Side}
use Rattle.afdx_frame.specs.declared.link.Side.TheVariants.{A, B}
use Rattle.afdx_config.specs.Rows.{Rows}
use Rattle.afdx_port.specs.declared.left.Due.{Due}
use Rattle.afdx_port.specs.Due.{given_at, order_of}
use Rattle.afdx_port.specs.History.{due_at}
use Rattle.afdx_port.specs.Ports.{order_at}
use Rattle.afdx_port.specs.Schedule.{Turn}
use Rattle.afdx_switch.specs.Calls as calls
use Rattle.afdx_switch.specs.HeldFrames.{HeldFrame}
use Rattle.afdx_switch.specs.Switching as switch
use Rattle.afdx_switch.specs.declared.switch_state.SwitchState.{SwitchState}
use Rattle.afdx_network.specs.Events.{Event, calls_on}
use Rattle.afdx_network.specs.Network as network
use Rattle.afdx_network.specs.Network.{IsNextOn}
use Rattle.afdx_network.specs.declared.network.Network.{Network}
use Rattle.afdx_network.proofs.StandsLemmas.{due-least}
use Rattle.afdx_cascade.specs.SwitchEvents.{Plan, SwitchEvent, at_switch}
use Rattle.afdx_cascade.specs.Scan.{IsFirstFrom}
use Rattle.afdx_cascade.specs.declared.scan.FirstTurn.{FirstTurn}
use Rattle.afdx_cascade.proofs.AcceptedLemmas.{no-entries}

-- ---- the numbers

-- more than each number
abbrev pub beyond : ℕ
beyond = 4503599627370497

-- the numbers of the switches of two sides
abbrev pub told : (at : ℕ) (ns : List Network) (r : Option FirstTurn) → IsFirstFrom at ns r → ℕ → Side → ℕ
told at [] r is j side = beyond
told at (n ∷ ns) r is zero A = is.3.a
told at (n ∷ ns) r is zero B = is.3.b
told at (n ∷ ns) r is (suc j) side = told (at + 1) ns is.2 is.4 j side

own-order : (o : Option Due) → IfSome o (λ d. order_at o ≤ order_of d)
own-order None = tt
own-order (Some d) = omega arith

small-order : (o : Option Due) → IfSome o (λ d. given_at d ≤ 1200000000000000) → order_at o < beyond
small-order None h = omega arith
small-order (Some d) h = by d.too_old h
  where
    by : (b : Bool) → d.time + (if b then 1 else 0) ≤ 1200000000000000
        → 2 * d.time + (if b then 1 else 0) < beyond
    by true h = omega (arith, h)
    by false h = omega (arith, h)

pub number-small : (w : SwitchState) (o : ℕ) → calls.TellsOrder w o → o < beyond
number-small w o tells = let is = tells.is in let small = small-order tells.due tells.tells.limit in
    omega (arith, is, small)

-- no turn stands before its switch's number
module _ (t : Rows) (n : Network) (events : List Event) (st : network.StandsFor t n events) where
  least-a : (a port : ℕ) (s : Turn HeldFrame) → calls.TellsOrder n.switches.a a → 1 ≤ port
      → port ≤ 24
      → IsNextOn t events A port s → a ≤ order_of (due_at s)
  least-a a port s tells low high next =
      let le = due-least t n events st A
      (calls_on A events (switch.last_time n.switches.a)) tells.due (order_at tells.due)
      (tells.tells.comes t A (calls_on A events (switch.last_time n.switches.a)) st.on_a)
      (λ p l h. tells.tells.all_done t A
      (calls_on A events (switch.last_time n.switches.a)) p st.on_a l h)
      (own-order tells.due) port s low high next in
      let is = tells.is in omega (arith, le, is)

  least-b : (b port : ℕ) (s : Turn HeldFrame) → calls.TellsOrder n.switches.b b → 1 ≤ port
      → port ≤ 24
      → IsNextOn t events B port s → b ≤ order_of (due_at s)
  least-b b port s tells low high next =
      let le = due-least t n events st B
      (calls_on B events (switch.last_time n.switches.b)) tells.due (order_at tells.due)
      (tells.tells.comes t B (calls_on B events (switch.last_time n.switches.b)) st.on_b)
      (λ p l h. tells.tells.all_done t B
      (calls_on B events (switch.last_time n.switches.b)) p st.on_b l h)
      (own-order tells.due) port s low high next in
      let is = tells.is in omega (arith, le, is)

pub nothing-next : (t : Rows) (events : List Event) (side : Side) (port : ℕ) (s : Turn HeldFrame)
    → events ≡ []
    → IsNextOn t events side port s → ⊥
nothing-next t events side port s none next =
    let there : IsNextOn t [] side port s = subst (λ es. IsNextOn t es side port s) none next in
    let stands = there.own.stands in
    let empty = no-entries t side port in
    cc (subst (λ es. slice_get es s.place ≡ Some s.entry) empty stands)

pub told-least : (c : Plan) (so_far : List SwitchEvent) (at : ℕ) (ns : List Network) (r : Option FirstTurn)
    (is : IsFirstFrom at ns r)
    → ((j : ℕ) (n : Network) → slice_get ns j ≡ Some n
    → network.StandsFor (c.tables (at + j)) n (at_switch (at + j) so_far))
    → ((k : ℕ) → at + length ns ≤ k → at_switch k so_far ≡ [])
    → (j : ℕ) (side : Side) (port : ℕ) (s : Turn HeldFrame) → 1 ≤ port → port ≤ 24
    → IsNextOn (c.tables (at + j)) (at_switch (at + j) so_far) side port s
    → told at ns r is j side ≤ order_of (due_at s)
told-least c so_far at [] r is each others j side port s low high next =
    absurd (nothing-next (c.tables (at + j)) (at_switch (at + j) so_far) side port s
    (others (at + j) (omega arith)) next)
told-least c so_far at (n ∷ ns) r is each others zero A port s low high next =
    least-a (c.tables (at + 0)) n (at_switch (at + 0) so_far)
    (each 0 n refl) is.3.a port s is.3.tells_a low high next
told-least c so_far at (n ∷ ns) r is each others zero B port s low high next =
    least-b (c.tables (at + 0)) n (at_switch (at + 0) so_far)
    (each 0 n refl) is.3.b port s is.3.tells_b low high next
told-least c so_far at (n ∷ ns) r is each others (suc j) side port s low high next =
    told-least c so_far (at + 1) ns is.2 is.4
    (λ i m at-i. subst (λ k. network.StandsFor (c.tables k) m (at_switch k so_far)) (omega arith)
    (each (suc i) m at-i))
    (λ k le. others k (omega (arith, le))) j side port s low high
    (subst (λ k. IsNextOn (c.tables k) (at_switch k so_far) side port s) (omega arith) next)
