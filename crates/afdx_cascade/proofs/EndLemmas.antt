-- Where no turn is given by a time: no cable has a frame of before, and late enough nothing is due.
use Rattle.std.proofs.Common.{◌≡◌, ℕ, ◌+◌, ◌*◌, ◌<◌, ◌≤◌, List, [], subst, arith, inl, inr}
use Rattle.std.specs.Prelude.{Option, Some, None, IfSome, IfNone, slice_get}
use Rattle.afdx_frame.specs.declared.link.Side.{Side}
use Rattle.afdx_frame.specs.declared.link.Side.TheVariants.{A, B}
use Rattle.afdx_config.specs.Rows.{Rows}
use Rattle.afdx_port.specs.Due.{given_at, IsAfter}
use Rattle.afdx_port.specs.Ports.{order_without_turn}
use Rattle.afdx_port.specs.Schedule.{Turn}
use Rattle.afdx_port.specs.declared.left.Due.{Due}
use Rattle.afdx_switch.specs.HeldFrames.{HeldFrame}
use Rattle.afdx_switch.specs.Switching as switch
use Rattle.afdx_network.specs.Events.{Event, calls_on}
use Rattle.afdx_network.specs.Network as network
use Rattle.afdx_network.specs.declared.network.Network.{Network}
use Rattle.afdx_cascade.specs.SwitchEvents.{Plan, SwitchEvent, at_switch}
use Rattle.afdx_cascade.specs.Due.{OnCable, IsRing}
use Rattle.afdx_cascade.specs.Runs.{IsDue}
use Rattle.afdx_cascade.specs.Scan.{IsFirstFrom}
use Rattle.afdx_cascade.specs.Keeping.{Keeps, IsEarly}
use Rattle.afdx_cascade.specs.declared.scan.FirstTurn.{FirstTurn}
use Rattle.afdx_cascade.proofs.NumberLemmas.{nothing-next}
use Rattle.afdx_cascade.proofs.MoreLemmas.{there-or-past}
use Rattle.afdx_cascade.proofs.RingLemmas.{no-frames}
use Rattle.afdx_cascade.proofs.ScanLemmas.{none-comes}
use Rattle.afdx_cascade.proofs.ComesLemmas.{IsTold, told-from}

module _ (c : Plan) (networks : List Network) (time : ℕ) (ring : List OnCable)
    (so_far : List SwitchEvent) (keeps : Keeps c networks time ring so_far) where
  -- no switch has a turn
  pub ring-end : (order : ℕ) → order_without_turn ≤ order → IsEarly order time ring → ring ≡ []
  ring-end order late (inl empty) = empty
  ring-end order late (inr le) = elim keeps.soon [
    | inl empty ↦ empty
    | inr soon ↦ absurd (omega (arith, late, le, soon))
  ]

  -- the first turn is given later
  pub ring-by : (order at until : ℕ) → until < at → 2 * at ≤ order + 1 → time ≤ until
      → IsEarly order time ring → ring ≡ []
  ring-by order at until later high soon (inl empty) = empty
  ring-by order at until later high soon (inr le) = absurd (omega (arith, later, high, soon, le))

  pub ring-late : (order at until : ℕ) → until < at → 2 * at ≤ order + 1
      → 1200000000000000 ≤ until → IsEarly order time ring → ring ≡ []
  ring-late order at until later high late early = elim keeps.soon [
    | inl empty ↦ empty
    | inr soon ↦ ring-by order at until later high (omega (arith, soon, late)) early
  ]

-- a switch that is quiet so late has no turn to come
module _ (t : Rows) (events : List Event) (side : Side) (h : switch.SwitchHistory) where
  quiet-done : (o : Option Due) (until port : ℕ) (s : Turn HeldFrame) → 1200000000000000 ≤ until
      → IfSome o (λ d. IsAfter until d) → IfSome o (λ d. given_at d ≤ 1200000000000000)
      → ((p : ℕ) → 1 ≤ p → p ≤ 24 → IfNone o (switch.IsDone t side h p)) → 1 ≤ port → port ≤ 24
      → switch.IsNextAt t side h port s → ⊥
  quiet-done (Some d) until port s late after limit done low high next =
      omega (arith, late, after, limit)
  quiet-done None until port s late after limit done low high next =
      none-comes t events side h None port s (omega arith) tt done low high next

turn-done : (t : Rows) (n : Network) (f : FirstTurn) (events : List Event) (until : ℕ)
    → network.StandsFor t n events → IsTold n f → network.IsQuiet n until
    → 1200000000000000 ≤ until → (side : Side) (port : ℕ) (s : Turn HeldFrame) → 1 ≤ port
    → port ≤ 24 → network.IsNextOn t events side port s → ⊥
turn-done t n f events until st told quiet late A port s low high next =
    let tells = told.tells.tells_a in
    let h = calls_on A events (switch.last_time n.switches.a) in
    quiet-done t events A h tells.due until port s late ((tells.tells.quiet until).0 quiet.on_a)
    tells.tells.limit (λ p l m. tells.tells.all_done t A h p st.on_a l m) low high next
turn-done t n f events until st told quiet late B port s low high next =
    let tells = told.tells.tells_b in
    let h = calls_on B events (switch.last_time n.switches.b) in
    quiet-done t events B h tells.due until port s late ((tells.tells.quiet until).0 quiet.on_b)
    tells.tells.limit (λ p l m. tells.tells.all_done t B h p st.on_b l m) low high next

pub all-done : (c : Plan) (networks : List Network) (time until : ℕ) (ring : List OnCable)
    (so_far : List SwitchEvent) (f : FirstTurn) → Keeps c networks time ring so_far
    → IsFirstFrom 0 networks (Some f) → ring ≡ [] → 1200000000000000 ≤ until
    → ((k : ℕ) (n : Network) → slice_get networks k ≡ Some n → network.IsQuiet n until)
    → (place : List ℕ) (g : SwitchEvent) → IsDue c so_far place g → ⊥
all-done c networks time until ring so_far f keeps is empty late quiet place g (inr frame) =
    no-frames c so_far time
    (subst (λ zs. IsRing c so_far time zs) empty keeps.stands.carried) place g frame
all-done c networks time until ring so_far f keeps is empty late quiet place g (inl due) =
    elim (there-or-past networks due.k) [
      | inr past ↦ nothing-next (c.tables due.k) (at_switch due.k so_far) due.side due.port due.turn
          (keeps.stands.all.others due.k past) due.next
      | inl found ↦ turn-done (c.tables due.k) found.0 f (at_switch due.k so_far) until
          (keeps.stands.all.each due.k found.0 found.1) (told-from 0 networks f is due.k found.0 found.1)
          (quiet due.k found.0 found.1) late due.side due.port due.turn due.low due.high due.next
    ]
