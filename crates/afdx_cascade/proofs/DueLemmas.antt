-- Which of all that is due in a cascade comes first.
use Rattle.std.proofs.Common.{◌≡◌, ℕ, ◌+◌, ◌*◌, ◌<◌, ◌≤◌, ◌⊎◌, Bool, true, false, List, [], ◌∷◌}
use Rattle.std.proofs.Common.{refl, sym, ap, ◌∙◌, subst, arith, inl, inr, nat_lt}
use Rattle.std.specs.Prelude.{if◌then◌else◌}
use Rattle.std.proofs.lemmas.Bool.{cases_eq}
use Rattle.afdx_frame.specs.declared.link.Side.{Side}
use Rattle.afdx_port.specs.Due.{order_of}
use Rattle.afdx_port.specs.History.{due_at}
use Rattle.afdx_port.specs.Schedule.{Turn}
use Rattle.afdx_port.proofs.TurnLemmas.{same_next}
use Rattle.afdx_switch.specs.HeldFrames.{HeldFrame}
use Rattle.afdx_switch.specs.Switching.{PortTurn, IsNextOf, taken_at}
use Rattle.afdx_switch.specs.Tables.{byte_ns_at, entries_at}
use Rattle.afdx_network.specs.Events.{calls_on, arrivals_in, turns_on}
use Rattle.afdx_network.specs.Network.{IsNextOn}
use Rattle.afdx_network.specs.Order.{is_below, side_number}
use Rattle.afdx_network.proofs.OrderLemmas.{below_first, below_next}
use Rattle.afdx_cascade.specs.SwitchEvents.{Plan, SwitchEvent, at_switch}
use Rattle.afdx_cascade.specs.Runs.{IsTurnDue, turn_phase}
use Rattle.afdx_cascade.specs.Due.{AreOrders, IsLeastOf, turn_place, turn_event}

-- turns of two ports, by time and kind and then by what else is compared
order-key : (m n : ℕ) (a b : Bool) (ms ns : List ℕ)
    → (2 * m + (if a then 1 else 0) < 2 * n + (if b then 1 else 0))
    ⊎ ((2 * m + (if a then 1 else 0) ≡ 2 * n + (if b then 1 else 0)) × (is_below ms ns ≡ true)) →
    is_below (m ∷ turn_phase a ∷ ms) (n ∷ turn_phase b ∷ ns) ≡ true
order-key m n false false ms ns (inl lt) = below_first m n (0 ∷ ms) (0 ∷ ns) (omega (arith, lt))
order-key m n false false ms ns (inr h) =
    below_next m n (0 ∷ ms) (0 ∷ ns) (omega (arith, h.0)) (below_next 0 0 ms ns (omega arith) h.1)
order-key m n false true ms ns (inl lt) =
    below_next m n (0 ∷ ms) (3 ∷ ns) (omega (arith, lt)) (below_first 0 3 ms ns (omega arith))
order-key m n false true ms ns (inr h) = absurd (omega (arith, h.0))
order-key m n true false ms ns (inl lt) = below_first m n (3 ∷ ms) (0 ∷ ns) (omega (arith, lt))
order-key m n true false ms ns (inr h) = absurd (omega (arith, h.0))
order-key m n true true ms ns (inl lt) = below_first m n (3 ∷ ms) (3 ∷ ns) (omega (arith, lt))
order-key m n true true ms ns (inr h) =
    below_next m n (3 ∷ ms) (3 ∷ ns) (omega (arith, h.0)) (below_next 3 3 ms ns (omega arith) h.1)

-- two numbers that come before two others do so whatever follows
below-more : (s j t k : ℕ) (ms ns : List ℕ) → is_below (s ∷ j ∷ []) (t ∷ k ∷ []) ≡ true
    → is_below (s ∷ j ∷ ms) (t ∷ k ∷ ns) ≡ true
below-more s j t k ms ns h = first (nat_lt s t) (nat_lt t s) h
  where
    second : (a b : Bool)
        → (if a then true else if b then false else is_below [] []) ≡ true
        → (if a then true else if b then false else is_below ms ns) ≡ true
    second true b h = refl
    second false true h = absurd (cc h)
    second false false h = absurd (cc h)

    first : (a b : Bool)
        → (if a then true else if b then false else is_below (j ∷ []) (k ∷ [])) ≡ true
        → (if a then true else if b then false else is_below (j ∷ ms) (k ∷ ns)) ≡ true
    first true b h = refl
    first false true h = absurd (cc h)
    first false false h = second (nat_lt j k) (nat_lt k j) h

-- the first turn of the first switch comes before each other turn
module _ (c : Plan) (so_far : List SwitchEvent)
    (order : ℕ → Side → ℕ) (k : ℕ) (side : Side) (gone : PortTurn)
    (orders : AreOrders c so_far order) (least : IsLeastOf order k side)
    (next : IsNextOf (c.tables k) side (calls_on side (at_switch k so_far) 0) gone)
    (is : order k side ≡ order_of (due_at gone.turn)) where
  -- of another switch
  other-switch : (j : ℕ) (other : Side) (port : ℕ) (s : Turn HeldFrame) → 1 ≤ port → port ≤ 24
      → IsNextOn (c.tables j) (at_switch j so_far) other port s
      → (order k side < order j other)
      ⊎ ((order k side ≡ order j other)
      × (is_below (side_number side ∷ k ∷ []) (side_number other ∷ j ∷ []) ≡ true))
      → is_below (turn_place k side gone) (turn_place j other (record { port = port; turn = s }))
      ≡ true
  other-switch j other port s low high due cases =
      let le = orders j other port s low high due in
      order-key gone.turn.end s.end gone.turn.too_old s.too_old
      (side_number side ∷ k ∷ gone.port ∷ [])
      (side_number other ∷ j ∷ port ∷ [])
      (elim cases [
        | inl lt ↦ inl (omega (arith, le, lt, is))
        | inr same ↦ elim (cases_eq (order_of (due_at gone.turn)) (order_of (due_at s))) [
          | inl equal ↦ inr (
            equal,
            below-more (side_number side) k (side_number other) j (gone.port ∷ [])
                (port ∷ []) same.1,
          )
          | inr apart ↦ (let eq = same.0 in inl (omega (arith, le, eq, is, apart)))
        ]
      ])

  -- of another port there
  other-port : (port : ℕ) (s : Turn HeldFrame) → 1 ≤ port → port ≤ 24
      → IsNextOn (c.tables k) (at_switch k so_far) side port s → (port ≡ gone.port → ⊥)
      → is_below (turn_place k side gone) (turn_place k side (record { port = port; turn = s }))
      ≡ true
  other-port port s low high due apart =
      order-key gone.turn.end s.end gone.turn.too_old s.too_old
      (side_number side ∷ k ∷ gone.port ∷ [])
      (side_number side ∷ k ∷ port ∷ [])
      (elim (next.first port s low high due) [
        | inl lt ↦ inl lt
        | inr same ↦ inr (
          same.0,
          below_next (side_number side) (side_number side) (k ∷ gone.port ∷ []) (k ∷ port ∷ [])
              (omega arith)
              (below_next k k (gone.port ∷ []) (port ∷ []) (omega arith)
              (below_first gone.port port [] [] (let le = same.1 in elim (cases_eq port gone.port) [
                | inl here ↦ absurd (apart here)
                | inr there ↦ omega (arith, le, there)
              ]))),
        )
      ])

  same-turn : (s : Turn HeldFrame) → IsNextOn (c.tables k) (at_switch k so_far) side gone.port s
      → s ≡ gone.turn
  same-turn s due = same_next (byte_ns_at (c.tables k) gone.port)
      (entries_at (c.tables k) side gone.port (arrivals_in (at_switch k so_far)))
      (taken_at gone.port (turns_on side (at_switch k so_far))) s gone.turn due next.next

  pub turn-first : (place : List ℕ) (g : SwitchEvent) → IsTurnDue c so_far place g
      → (g ≡ turn_event so_far k side gone) ⊎ (is_below (turn_place k side gone) place ≡ true)
  turn-first place g due = elim (least due.k due.side) [
    | inr cases ↦ inr (subst (λ p. is_below (turn_place k side gone) p ≡ true) (sym due.place_is)
        (other-switch due.k due.side due.port due.turn due.low due.high due.next cases))
    | inl same ↦ (let there : IsNextOn (c.tables k) (at_switch k so_far) side due.port due.turn =
        subst (λ s. IsNextOn (c.tables k) (at_switch k so_far) s due.port due.turn) same.1
        (subst (λ j. IsNextOn (c.tables j)
        (at_switch j so_far) due.side due.port due.turn) same.0 due.next) in
        let as-place : place ≡ turn_place k side (record { port = due.port; turn = due.turn }) =
        due.place_is ∙ subst (λ s.
        turn_place due.k due.side (record { port = due.port; turn = due.turn })
        ≡ turn_place k s (record { port = due.port; turn = due.turn })) same.1
        (ap (λ j. turn_place j due.side (record { port = due.port; turn = due.turn })) same.0) in
        let as-g : g ≡ turn_event so_far k side (record { port = due.port; turn = due.turn }) =
        due.is ∙ subst (λ s. turn_event so_far due.k due.side
        (record { port = due.port; turn = due.turn })
        ≡ turn_event so_far k s (record { port = due.port; turn = due.turn })) same.1
        (ap (λ j. turn_event so_far j due.side
        (record { port = due.port; turn = due.turn })) same.0) in
        elim (cases_eq due.port gone.port) [
          | inr apart ↦ inr (subst (λ p. is_below (turn_place k side gone) p ≡ true) (sym as-place)
              (other-port due.port due.turn due.low due.high there apart))
          | inl here ↦
              (let turn = same-turn due.turn
              (subst (λ p. IsNextOn (c.tables k)
              (at_switch k so_far) side p due.turn) here there) in
              inl (as-g ∙ ap (λ p. turn_event so_far k side
              (record { port = p; turn = due.turn })) here
              ∙ ap (λ t. turn_event so_far k side (record { port = gone.port; turn = t })) turn))
        ])
  ]
