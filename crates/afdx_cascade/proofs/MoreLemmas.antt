-- What came to a switch, and what left its ports, with one event more.
use Rattle.std.proofs.Common.{◌≡◌, ℕ, zero, suc, ◌<◌, ◌≤◌, ◌==◌, ◌&&◌, ◌⊎◌, Bool, true, false, not, List, [], ◌∷◌}
use Rattle.std.proofs.Common.{nat_lt, length, map, refl, sym, ap, ◌∙◌, subst, arith, inl, inr}
use Rattle.std.specs.Prelude.{if◌then◌else◌, Some, set, slice_get}
use Rattle.std.proofs.lemmas.Bool.{cases_eq, ne_eqb}
use Rattle.std.proofs.lemmas.List.{length-set}
use Rattle.afdx_frame.specs.declared.link.Side.{Side}
use Rattle.afdx_frame.specs.declared.link.Side.TheVariants.{A, B}
use Rattle.afdx_police.specs.Arrival.{is_side}
use Rattle.afdx_port.specs.Schedule.{Turn, AreTurns}
use Rattle.afdx_port.proofs.TurnLemmas.{eqb-same, nat_lt-true}
use Rattle.afdx_switch.specs.Admitted.{slots}
use Rattle.afdx_switch.specs.HeldFrames.{HeldFrame}
use Rattle.afdx_switch.specs.Switching.{taken_at}
use Rattle.afdx_switch.specs.Switching as switch
use Rattle.afdx_switch.specs.Tables.{byte_ns_at, entries_at}
use Rattle.afdx_switch.proofs.LawLemmas.{taken-turns}
use Rattle.afdx_switch.proofs.ListLemmas.{set-cases}
use Rattle.afdx_network.specs.Events.{Event, Came, Left, Admission, Departure, arrivals_in, turns_on, calls_on}
use Rattle.afdx_network.specs.Network as network
use Rattle.afdx_network.specs.declared.network.Network.{Network}
use Rattle.afdx_network.proofs.EventLemmas.{ports-same, taken-same, taken-other}
use Rattle.afdx_law_promises.specs.Sent.{arrivals_at}
use Rattle.afdx_cascade.specs.Cables.{brought, brought_by}
use Rattle.afdx_cascade.specs.SwitchEvents.{Plan, SwitchEvent, KeepsRules}
use Rattle.afdx_cascade.specs.SwitchEvents.{at_switch, came_to, in_clock, turns_of}
use Rattle.afdx_cascade.specs.Runs.{event_at}
use Rattle.afdx_cascade.proofs.AcceptedLemmas.{no-taken}
use Rattle.afdx_cascade.specs.Due.{OnCable, IsRing, from_end}
use Rattle.afdx_cascade.specs.Found.{AllStand}

-- ---- the networks say what the rules say

turns-stand : (c : Plan) (n : Network) (events : List Event) (k port : ℕ) (side : Side)
    → network.StandsFor (c.tables k) n events → 1 ≤ port → port ≤ 24
    → AreTurns (byte_ns_at (c.tables k) port)
    (entries_at (c.tables k) side port (arrivals_in events))
    (taken_at port (turns_on side events))
turns-stand c n events k port A st low high =
    taken-turns (c.tables k) A n.switches.a
    (calls_on A events (switch.last_time n.switches.a)) port st.on_a low high
turns-stand c n events k port B st low high =
    taken-turns (c.tables k) B n.switches.b
    (calls_on B events (switch.last_time n.switches.b)) port st.on_b low high

pub no-turns : (c : Plan) (events : List Event) (k port : ℕ) (side : Side) → events ≡ []
    → AreTurns (byte_ns_at (c.tables k) port)
    (entries_at (c.tables k) side port (arrivals_in events))
    (taken_at port (turns_on side events))
no-turns c events k port side none =
    subst (λ es. AreTurns (byte_ns_at (c.tables k) port)
    (entries_at (c.tables k) side port (arrivals_in es))
    (taken_at port (turns_on side es))) (sym none)
    (subst (AreTurns (byte_ns_at (c.tables k) port) (entries_at (c.tables k) side port []))
    (sym (no-taken port)) tt)

pub there-or-past : (ns : List Network) (k : ℕ)
    → ((n : Network) × (slice_get ns k ≡ Some n)) ⊎ (length ns ≤ k)
there-or-past [] k = inr (omega arith)
there-or-past (n ∷ ns) zero = inl (n, refl)
there-or-past (n ∷ ns) (suc k) = elim (there-or-past ns k) [
  | inl found ↦ inl (found.0, found.1)
  | inr past ↦ inr (omega (arith, past))
]

pub rules-from : (c : Plan) (networks : List Network) (time : ℕ) (ring : List OnCable)
    (so_far : List SwitchEvent)
    → AllStand c networks so_far → IsRing c so_far time ring → KeepsRules c so_far
rules-from c networks time ring so_far all is = record {
  turns = λ k port side low high. elim (there-or-past networks k) [
    | inl found ↦ turns-stand c found.0 (at_switch k so_far) k port side
        (all.each k found.0 found.1) low high
    | inr past ↦ no-turns c (at_switch k so_far) k port side (all.others k past)
  ];
  cables = λ k port side other joined. record {
    waiting = map (brought side port) (from_end side other ring);
    brings = is.carries k port side other joined;
  };
}

-- ---- one event more

pub at-same : (k : ℕ) (e : Event) (so_far : List SwitchEvent)
    → at_switch k (event_at k e ∷ so_far) ≡ e ∷ at_switch k so_far
at-same k e so_far = rw (eqb-same k k refl) refl

pub at-other : (j k : ℕ) (e : Event) (so_far : List SwitchEvent) → (k ≡ j → ⊥)
    → at_switch j (event_at k e ∷ so_far) ≡ at_switch j so_far
at-other j k e so_far apart = rw (ne_eqb k j apart) refl

pub each-more : (c : Plan) (networks : List Network) (so_far : List SwitchEvent) (k : ℕ) (e : Event)
    (new : Network)
    → AllStand c networks so_far → k < length networks
    → network.StandsFor (c.tables k) new (e ∷ at_switch k so_far)
    → AllStand c (set networks k new) (event_at k e ∷ so_far)
each-more c networks so_far k e new all within st = record {
  each = λ j n at. elim (set-cases networks k new j n within at) [
    | inl here ↦ subst (λ z. network.StandsFor (c.tables z) n (at_switch z (event_at k e ∷ so_far)))
        (sym here.0)
        (subst (λ m. network.StandsFor (c.tables k) m (at_switch k (event_at k e ∷ so_far)))
        (sym here.1)
        (subst (λ es. network.StandsFor (c.tables k) new es) (sym (at-same k e so_far)) st))
    | inr there ↦ subst (λ es. network.StandsFor (c.tables j) n es)
        (sym (at-other j k e so_far (λ same. there.0 (sym same)))) (all.each j n there.1)
  ];
  others = λ j past. (let same = length-set networks k new in
      at-other j k e so_far (λ is. omega (arith, is, within, past, same))
      ∙ all.others j (omega (arith, past, same)));
}

-- what came to a switch, and the turns of a port, with one more arrival
pub came-same : (k : ℕ) (a : Admission) (so_far : List SwitchEvent)
    → came_to k (event_at k (Came a) ∷ so_far) ≡ a.arrival ∷ came_to k so_far
came-same k a so_far = ap arrivals_in (at-same k (Came a) so_far)

came-other : (j k : ℕ) (e : Event) (so_far : List SwitchEvent) → (k ≡ j → ⊥)
    → came_to j (event_at k e ∷ so_far) ≡ came_to j so_far
came-other j k e so_far apart = ap arrivals_in (at-other j k e so_far apart)

pub came-turns : (j k port : ℕ) (side : Side) (a : Admission) (so_far : List SwitchEvent)
    → turns_of j side port (event_at k (Came a) ∷ so_far) ≡ turns_of j side port so_far
came-turns j k port side a so_far = elim (cases_eq k j) [
  | inl same ↦ subst (λ z. turns_of z side port (event_at k (Came a) ∷ so_far)
      ≡ turns_of z side port so_far) same
      (ap (λ es. taken_at port (turns_on side es)) (at-same k (Came a) so_far))
  | inr apart ↦ ap (λ es. taken_at port (turns_on side es)) (at-other j k (Came a) so_far apart)
]

-- with one more turn nothing has come
pub left-came : (j k : ℕ) (d : Departure) (so_far : List SwitchEvent)
    → came_to j (event_at k (Left d) ∷ so_far) ≡ came_to j so_far
left-came j k d so_far = elim (cases_eq k j) [
  | inl same ↦ subst (λ z. came_to z (event_at k (Left d) ∷ so_far) ≡ came_to z so_far) same
      (ap arrivals_in (at-same k (Left d) so_far))
  | inr apart ↦ came-other j k (Left d) so_far apart
]

-- an arrival at another port, or on the other side, is none at this one
pub elsewhere : (j k port : ℕ) (side : Side) (a : Admission) (so_far : List SwitchEvent)
    → ((k ≡ j) → (is_side side a.arrival.side && (port == a.arrival.port)) ≡ false)
    → arrivals_at side port (came_to j (event_at k (Came a) ∷ so_far))
    ≡ arrivals_at side port (came_to j so_far)
elsewhere j k port side a so_far other = elim (cases_eq k j) [
  | inr apart ↦ ap (arrivals_at side port) (came-other j k (Came a) so_far apart)
  | inl same ↦ ap (arrivals_at side port) (subst (λ z. came_to z (event_at k (Came a) ∷ so_far)
      ≡ a.arrival ∷ came_to z so_far) same (came-same k a so_far))
      ∙ ap (λ b. if b then a.arrival ∷ arrivals_at side port (came_to j so_far)
      else arrivals_at side port (came_to j so_far)) (other same)
]

-- ---- one more turn

pub record IsTurnAt (j k port : ℕ) (side : Side) (d : Departure)
    (so_far : List SwitchEvent) : Type 0 where
  pub switch_is : k ≡ j
  pub side_is : side ≡ d.side
  pub port_is : port ≡ d.port
  pub more : turns_of j side port (event_at k (Left d) ∷ so_far) ≡ d.turn ∷ turns_of j side port so_far

pub left-turns : (j k port : ℕ) (side : Side) (d : Departure) (so_far : List SwitchEvent)
    → IsTurnAt j k port side d so_far
    ⊎ ((turns_of j side port (event_at k (Left d) ∷ so_far) ≡ turns_of j side port so_far)
    × (k ≡ j → side ≡ d.side → port ≡ d.port → ⊥))
left-turns j k port side d so_far = elim (cases_eq k j) [
  | inr apart ↦ inr (
    ap (λ es. taken_at port (turns_on side es)) (at-other j k (Left d) so_far apart),
    λ same s p. apart same,
  )
  | inl same ↦ elim (ports-same side port d) [
    | inr other ↦ inr (
      ap (λ es. taken_at port (turns_on side es))
          (subst (λ z. at_switch z (event_at k (Left d) ∷ so_far)
          ≡ Left d ∷ at_switch z so_far) same (at-same k (Left d) so_far))
          ∙ taken-other side port d (at_switch j so_far) other,
      λ z s p. other s p,
    )
    | inl here ↦ inl (record {
      switch_is = same;
      side_is = here.0;
      port_is = here.1;
      more = ap (λ es. taken_at port (turns_on side es))
          (subst (λ z. at_switch z (event_at k (Left d) ∷ so_far)
          ≡ Left d ∷ at_switch z so_far) same (at-same k (Left d) so_far))
          ∙ subst (λ s. taken_at port (turns_on s (Left d ∷ at_switch j so_far))
          ≡ d.turn ∷ taken_at port (turns_on s (at_switch j so_far))) (sym here.0)
          (subst (λ p. taken_at p (turns_on d.side (Left d ∷ at_switch j so_far))
          ≡ d.turn ∷ taken_at p (turns_on d.side (at_switch j so_far))) (sym here.1)
          (taken-same d (at_switch j so_far)));
    })
  ]
]

-- no cable has a frame of a turn that was a drop, or is over too late
pub old-first : (side : Side) (port : ℕ) (s : Turn HeldFrame) (earlier : List (Turn HeldFrame))
    → s.too_old ≡ true
    → brought_by side port (in_clock (s ∷ earlier)) ≡ brought_by side port (in_clock earlier)
old-first side port s earlier old = by (nat_lt 1000032768000000 s.end)
  where
    by : (b : Bool) → brought_by side port (if not b then s ∷ in_clock earlier
        else in_clock earlier)
        ≡ brought_by side port (in_clock earlier)
    by true = refl
    by false = ap (λ b. map (brought side port) (if not b then s ∷ slots (in_clock earlier)
        else slots (in_clock earlier))) old

pub late-first : (side : Side) (port : ℕ) (s : Turn HeldFrame) (earlier : List (Turn HeldFrame))
    → 1000032768000000 < s.end
    → brought_by side port (in_clock (s ∷ earlier)) ≡ brought_by side port (in_clock earlier)
late-first side port s earlier late =
    ap (λ b. brought_by side port (if not b then s ∷ in_clock earlier else in_clock earlier))
    (nat_lt-true 1000032768000000 s.end late)
