-- The example's four events are all events of its list.
use Rattle.std.proofs.Common.{◌≡◌, ℕ, zero, suc, ◌*◌, ◌<◌, ◌≤◌, ◌==◌, ◌⊎◌, true, false, List, []}
use Rattle.std.proofs.Common.{◌∷◌, length, refl, sym, ap, subst, arith, inl, inr}
use Rattle.std.specs.Prelude.{if◌then◌else◌, None}
use Rattle.std.proofs.lemmas.Bool.{cases_eq}
use Rattle.afdx_frame.specs.Reading.{BuiltIsComputed}
use Rattle.afdx_frame.specs.declared.link.Side.{Side}
use Rattle.afdx_frame.specs.declared.link.Side.TheVariants.{A, B}
use Rattle.afdx_config.specs.Rows.{Rows}
use Rattle.afdx_police.specs.Arrival.{Arrival}
use Rattle.afdx_port.specs.Due.{order_of}
use Rattle.afdx_port.specs.History.{due_at}
use Rattle.afdx_port.specs.Schedule.{Turn, IsNext}
use Rattle.afdx_port.proofs.TurnLemmas.{eqb-other, eqb-same}
use Rattle.afdx_switch.specs.HeldFrames.{HeldFrame}
use Rattle.afdx_switch.specs.Switching.{taken_at}
use Rattle.afdx_switch.specs.Tables.{byte_ns_at, entries_at}
use Rattle.afdx_switch.specs.Verdicts.{reason_of}
use Rattle.afdx_network.specs.Events.{Event, turns_on}
use Rattle.afdx_network.specs.Network.{IsNextOn}
use Rattle.afdx_network.specs.Order.{is_below, side_number}
use Rattle.afdx_cascade.specs.Examples.{tables_before, tables_after}
use Rattle.afdx_cascade.specs.SwitchEvents.{IsPlan, SwitchEvent, at_switch, came_to, end_at}
use Rattle.afdx_cascade.specs.SwitchEvents.{accepted_by}
use Rattle.afdx_cascade.specs.Due.{IsRing, AreOrders, IsLeastOf, turn_event}
use Rattle.afdx_cascade.specs.TwoHops.{tables_of, two_switches, line, arrived, left, carried_on}
use Rattle.afdx_cascade.specs.TwoHops.{left_both, FramePassesBoth}
use Rattle.afdx_cascade.specs.Runs.{arriving, IsDue, IsFirstDue, IsNextLine, AreAll}
use Rattle.afdx_cascade.proofs.AcceptedLemmas.{no-taken}
use Rattle.afdx_cascade.proofs.TwoHopsLemmas.{next-named, first_row, second_row, first_slot}
use Rattle.afdx_cascade.proofs.TwoHopsLemmas.{next_arrival, second_slot, first-passes, first-soon}
use Rattle.afdx_cascade.proofs.TwoHopsLemmas.{the-plan, next-passes}
use Rattle.afdx_cascade.proofs.NumberLemmas.{nothing-next}
use Rattle.afdx_cascade.proofs.OneFrameLemmas.{PassesOne, are-turns, next-one, no-more, slot-young}
use Rattle.afdx_cascade.proofs.RingLemmas.{turn-next, frame-next, no-frames}
use Rattle.afdx_cascade.proofs.TwoHopsRunLemmas.{on_its_cable, one_gone, one-taken, empty-ring}
use Rattle.afdx_cascade.proofs.TwoHopsRunLemmas.{arrived-ring, left-ring, carried-ring, all-ring}
use Rattle.afdx_cascade.proofs.TwoHopsRunLemmas.{after-arrived, after-left, after-carried}
use Rattle.afdx_cascade.proofs.TwoHopsRunLemmas.{after-both, arrived-rules, left-rules}
use Rattle.afdx_cascade.proofs.TwoHopsRunLemmas.{carried-rules, both-rules, accepted-again}

-- ---- which turns are due

-- one turn is due at a time, at port 2 of a switch, and no frame before it
one-due : (es : List SwitchEvent) (time k : ℕ) (slot : Turn HeldFrame)
    → IsRing two_switches es time []
    → IsNextOn (tables_of k) (at_switch k es) A 2 slot
    → ((j : ℕ) (side : Side) (port : ℕ) (s : Turn HeldFrame)
    → IsNextOn (tables_of j) (at_switch j es) side port s
    → (j ≡ k) × (side ≡ A) × (port ≡ 2) × (s ≡ slot))
    → IsFirstDue two_switches es [] (turn_event es k A (record { port = 2; turn = slot }))
one-due es time k slot ring next only =
    turn-next two_switches es [] order k A (record { port = 2; turn = slot }) time [] orders least
    (record {
      port_first = omega arith;
      port_last = omega arith;
      next = next;
      first = λ port s low high other. (let same = only k A port s other in
          inr (
            ap (λ z. order_of (due_at z)) (sym same.3),
            (let here = same.2 in omega (arith, here)),
          ));
    }) own ring (inl refl) tt
  where
    on : Side → ℕ
    on A = order_of (due_at slot)
    on B = suc (order_of (due_at slot))

    order : ℕ → Side → ℕ
    order j side = if j == k then on side else suc (order_of (due_at slot))

    own : order k A ≡ order_of (due_at slot)
    own = rw (eqb-same k k refl) refl

    orders : AreOrders two_switches es order
    orders j side port s low high there =
        let same = only j side port s there in
        subst (λ i. order i side ≤ order_of (due_at s)) (sym same.0)
        (subst (λ z. order k z ≤ order_of (due_at s)) (sym same.1)
        (subst (λ z. order k A ≤ order_of (due_at z)) (sym same.3) (omega (arith, own))))

    least : IsLeastOf order k A
    least j other = elim (cases_eq j k) [
      | inr apart ↦ inr (inl (let more : order j other ≡ suc (order_of (due_at slot)) =
          rw (eqb-other j k apart) refl in omega (arith, own, more)))
      | inl same ↦ by same other refl
    ]
      where
        by : j ≡ k → (s : Side) → other ≡ s → ((j ≡ k) × (other ≡ A))
            ⊎ ((order k A < order j other)
            ⊎ ((order k A ≡ order j other)
            × (is_below (side_number A ∷ k ∷ []) (side_number other ∷ j ∷ []) ≡ true)))
        by same A is = inl (same, is)
        by same B is = inr (inl (let more : order j B ≡ suc (order_of (due_at slot)) =
            rw (eqb-same j k same) refl in
            subst (λ s. order k A < order j s) (sym is) (omega (arith, own, more))))

-- a switch without events has none
none-due : (t : Rows) (es : List Event) (side : Side) (port : ℕ) (s : Turn HeldFrame) → es ≡ []
    → IsNextOn t es side port s → ⊥
none-due t es side port s none next = nothing-next t es side port s none next

module _ (p : PassesOne tables_before first_row line.arrival) where
  at-first : (side : Side) (port : ℕ) (s : Turn HeldFrame)
      → IsNextOn tables_before (at_switch 0 arrived) side port s
      → (side ≡ A) × (port ≡ 2) × (s ≡ first_slot)
  at-first side port s next = next-one tables_before first_row line.arrival p side port s
      (subst (λ ts. IsNext (byte_ns_at tables_before port)
      (entries_at tables_before side port (line.arrival ∷ [])) ts s) (no-taken port) next)

  after-first : (side : Side) (port : ℕ) (s : Turn HeldFrame)
      → IsNextOn tables_before (at_switch 0 (left first_slot)) side port s → ⊥
  after-first side port s next = no-more tables_before first_row line.arrival p side port
      (taken_at port (turns_on side (at_switch 0 (left first_slot)))) s
      (λ same here. subst (λ z. taken_at port (turns_on z (at_switch 0 (left first_slot)))
      ≡ first_slot ∷ []) (sym same)
      (subst (λ n. taken_at n (one_gone first_slot) ≡ first_slot ∷ []) (sym here)
      (one-taken first_slot))) next

  arrived-due : (k : ℕ) (side : Side) (port : ℕ) (s : Turn HeldFrame)
      → IsNextOn (tables_of k) (at_switch k arrived) side port s
      → (k ≡ 0) × (side ≡ A) × (port ≡ 2) × (s ≡ first_slot)
  arrived-due zero side port s next =
      let same = at-first side port s next in (refl, same.0, same.1, same.2)
  arrived-due (suc zero) side port s next = absurd (none-due tables_after [] side port s refl next)
  arrived-due (suc (suc k)) side port s next = absurd (none-due tables_before
      (at_switch (suc (suc k)) arrived) side port s (after-arrived k) next)

  left-due : (k : ℕ) (side : Side) (port : ℕ) (s : Turn HeldFrame)
      → IsNextOn (tables_of k) (at_switch k (left first_slot)) side port s → ⊥
  left-due zero side port s next = after-first side port s next
  left-due (suc zero) side port s next = none-due tables_after [] side port s refl next
  left-due (suc (suc k)) side port s next = none-due tables_before
      (at_switch (suc (suc k)) (left first_slot)) side port s (after-left k) next

  module _ (q : PassesOne tables_after second_row next_arrival) where
    carried-due : (k : ℕ) (side : Side) (port : ℕ) (s : Turn HeldFrame)
        → IsNextOn (tables_of k) (at_switch k (carried_on first_slot)) side port s
        → (k ≡ 1) × (side ≡ A) × (port ≡ 2) × (s ≡ second_slot)
    carried-due zero side port s next = absurd (after-first side port s next)
    carried-due (suc zero) side port s next =
        let same = next-one tables_after second_row next_arrival q side port s
        (subst (λ ts. IsNext (byte_ns_at tables_after port)
        (entries_at tables_after side port (next_arrival ∷ [])) ts s) (no-taken port) next) in
        (refl, same.0, same.1, same.2)
    carried-due (suc (suc k)) side port s next = absurd (none-due tables_before
        (at_switch (suc (suc k)) (carried_on first_slot)) side port s (after-carried k) next)

    both-due : (k : ℕ) (side : Side) (port : ℕ) (s : Turn HeldFrame)
        → IsNextOn (tables_of k) (at_switch k (left_both first_slot second_slot)) side port s → ⊥
    both-due zero side port s next = after-first side port s next
    both-due (suc zero) side port s next = no-more tables_after second_row next_arrival q side port
        (taken_at port (turns_on side (at_switch 1 (left_both first_slot second_slot)))) s
        (λ same here. subst (λ z.
        taken_at port (turns_on z (at_switch 1 (left_both first_slot second_slot)))
        ≡ second_slot ∷ []) (sym same)
        (subst (λ n. taken_at n (one_gone second_slot) ≡ second_slot ∷ []) (sym here)
        (one-taken second_slot))) next
    both-due (suc (suc k)) side port s next = none-due tables_before
        (at_switch (suc (suc k)) (left_both first_slot second_slot)) side port s (after-both k) next

-- ---- each event is the next one

line-next : IsNextLine two_switches [] (line ∷ []) (arriving two_switches [] 0 line.arrival) []
line-next = record {
  line = line;
  are = refl;
  free = refl;
  is = refl;
  first = λ place g due. absurd (nothing place g due);
}
  where
    nothing : (place : List ℕ) (g : SwitchEvent) → IsDue two_switches [] place g → ⊥
    nothing place g (inl turn) =
        none-due (tables_of turn.k) [] turn.side turn.port turn.turn refl turn.next
    nothing place g (inr frame) = no-frames two_switches [] 0 empty-ring place g frame

module _ (plan : IsPlan two_switches) (p : PassesOne tables_before first_row line.arrival)
    (q : PassesOne tables_after second_row next_arrival)
    (soon : first_slot.end ≤ 1000032768000000) (young : first_slot.too_old ≡ false) where
  first-leaves : IsFirstDue two_switches arrived []
      (turn_event arrived 0 A (record { port = 2; turn = first_slot }))
  first-leaves = one-due arrived 0 0 first_slot arrived-ring
      (subst (λ ts. IsNext (byte_ns_at tables_before 2)
      (entries_at tables_before A 2 (line.arrival ∷ [])) ts first_slot) (sym (no-taken 2))
      (are-turns tables_before first_row line.arrival p).0) (arrived-due p)

  then-arrives : IsFirstDue two_switches (left first_slot) []
      (arriving two_switches (left first_slot) 1 next_arrival)
  then-arrives = frame-next two_switches (left first_slot) [] (λ k side. suc (2 * first_slot.end))
      first_slot.end on_its_cable [] (end_at 1 1) plan
      (λ k side port s low high next. absurd (left-due p k side port s next))
      (λ k side. omega arith) (left-ring soon young) refl tt

  second-leaves : IsFirstDue two_switches (carried_on first_slot) []
      (turn_event (carried_on first_slot) 1 A (record { port = 2; turn = second_slot }))
  second-leaves = one-due (carried_on first_slot) first_slot.end 1 second_slot
      (carried-ring soon young)
      (subst (λ ts. IsNext (byte_ns_at tables_after 2)
      (entries_at tables_after A 2 (next_arrival ∷ [])) ts second_slot) (sym (no-taken 2))
      (are-turns tables_after second_row next_arrival q).0) (carried-due p q)

  all-of-them : AreAll two_switches (line ∷ []) (left_both first_slot second_slot)
  all-of-them = record {
    runs = (
      [],
      (
        [],
        ([], (line ∷ [], refl, inr line-next), inl (first-leaves, refl)),
        inl (then-arrives, refl),
      ),
      inl (second-leaves, refl),
    );
    none = none;
  }
    where
      none : (place : List ℕ) (g : SwitchEvent)
          → IsDue two_switches (left_both first_slot second_slot) place g → ⊥
      none place g (inl turn) = both-due p q turn.k turn.side turn.port turn.turn turn.next
      none place g (inr frame) = no-frames two_switches (left_both first_slot second_slot)
          first_slot.end (all-ring soon young) place g frame

-- ---- the example

one-accepted : (t : Rows) (x : Arrival) → reason_of t [] x ≡ None
    → length (accepted_by t (x ∷ [])) ≡ 1
one-accepted t x is = rw is refl

pub passes-both : BuiltIsComputed → FramePassesBoth
passes-both computed = record {
  plan = plan;
  first = first_slot;
  second = second_slot;
  all = all-of-them plan p q soon young;
  rules = (
    both-rules p soon young q,
    (carried-rules p soon young, (left-rules p soon young, (arrived-rules p soon young, tt))),
  );
  accepted = accepted;
}
  where
    plan : IsPlan two_switches
    plan = the-plan

    p : PassesOne tables_before first_row line.arrival
    p = first-passes computed

    soon : first_slot.end ≤ 1000032768000000
    soon = first-soon computed

    young : first_slot.too_old ≡ false
    young = slot-young tables_before first_row line.arrival p

    q : PassesOne tables_after second_row next_arrival
    q = next-passes (next-named computed) (accepted-again p.run plan
        (carried-rules p soon young) (next-named computed))

    accepted : (k : ℕ) → k < 2
        → length (accepted_by (tables_of k) (came_to k (left_both first_slot second_slot))) ≡ 1
    accepted zero lt = one-accepted tables_before line.arrival p.accepted
    accepted (suc zero) lt = one-accepted tables_after next_arrival q.accepted
    accepted (suc (suc k)) lt = absurd (omega (arith, lt))
