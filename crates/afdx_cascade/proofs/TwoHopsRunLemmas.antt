-- The example: its turns and cables keep the rules, event by event, and the second switch accepts.
use Rattle.std.proofs.Common.{◌≡◌, ℕ, zero, suc, ◌≤◌, ◌==◌, true, false, List, [], ◌∷◌, ◌++◌, map}
use Rattle.std.proofs.Common.{refl, sym, ap, subst, arith, inl, inr}
use Rattle.std.specs.Prelude.{Some, None}
use Rattle.std.specs.List.{AllByRecursion}
use Rattle.std.proofs.lemmas.Bool.{cases_Bool, cases_eq, eqb-true}
use Rattle.afdx_frame.specs.declared.link.Side.{Side}
use Rattle.afdx_frame.specs.declared.link.Side.TheVariants.{A, B}
use Rattle.afdx_config.specs.Rows.{Rows}
use Rattle.afdx_police.specs.Arrival.{Arrival, names}
use Rattle.afdx_port.specs.Schedule.{Turn, AreTurns}
use Rattle.afdx_port.proofs.TurnLemmas.{eqb-other, nat_lt-false}
use Rattle.afdx_law_bounds.specs.Outputs.{Row}
use Rattle.afdx_switch.specs.Admitted.{IsAdmittedRun}
use Rattle.afdx_switch.specs.HeldFrames.{HeldFrame}
use Rattle.afdx_switch.specs.Switching.{PortTurn, taken_at}
use Rattle.afdx_switch.specs.Tables.{byte_ns_at, entries_at, rule_of, port_of}
use Rattle.afdx_switch.specs.Verdicts.{reason_of}
use Rattle.afdx_law_promises.specs.Sent.{arrivals_at}
use Rattle.afdx_cascade.specs.Cables.{brought, brought_by}
use Rattle.afdx_cascade.specs.Examples.{tables_before, link_before, tables_after, link_after}
use Rattle.afdx_cascade.specs.SwitchEvents.{IsPlan, End, SwitchEvent, KeepsRules, at_switch}
use Rattle.afdx_cascade.specs.SwitchEvents.{came_to, in_clock, turns_of, end_at}
use Rattle.afdx_cascade.specs.Due.{OnCable, IsRing, AreAscending, from_end}
use Rattle.afdx_cascade.specs.TwoHops.{tables_of, joined_to, two_switches, line, arrived, left}
use Rattle.afdx_cascade.specs.TwoHops.{carried_on, left_both}
use Rattle.afdx_cascade.specs.Again.{IsNextThere}
use Rattle.afdx_cascade.proofs.AcceptedLemmas.{no-taken}
use Rattle.afdx_cascade.proofs.AgainLemmas.{brought-accepted}
use Rattle.afdx_cascade.proofs.MoreLemmas.{no-turns}
use Rattle.afdx_cascade.proofs.TwoHopsLemmas.{before-goes-two, next-run, first_row, second_row}
use Rattle.afdx_cascade.proofs.TwoHopsLemmas.{first_slot, next_arrival, second_slot}
use Rattle.afdx_cascade.proofs.OneFrameLemmas.{PassesOne, turn_of, are-turns}

-- ---- the turns of a port of a switch that had one turn, at port 2

pub one-taken : (s : Turn HeldFrame) → taken_at 2 (record { port = 2; turn = s } ∷ []) ≡ s ∷ []
unfolding taken_at
one-taken s = refl

none-taken : (port : ℕ) (s : Turn HeldFrame) → (port ≡ 2 → ⊥)
    → taken_at port (record { port = 2; turn = s } ∷ []) ≡ []
unfolding taken_at
none-taken port s apart = rw (eqb-other 2 port (λ same. apart (sym same))) refl

abbrev pub one_gone : Turn HeldFrame → List PortTurn
one_gone s = record { port = 2; turn = s } ∷ []

-- a port that had none
none-had : (t : Rows) (x : Arrival) (side : Side) (port : ℕ)
    → AreTurns (byte_ns_at t port) (entries_at t side port (x ∷ [])) (taken_at port [])
none-had t x side port =
    subst (AreTurns (byte_ns_at t port) (entries_at t side port (x ∷ []))) (sym (no-taken port)) tt

-- a frame has arrived on side A
module _ (t : Rows) (r : Row) (x : Arrival) (p : PassesOne t r x) (on_a : x.side ≡ A) where
  had-turn : (port : ℕ) → AreTurns (byte_ns_at t port) (entries_at t A port (x ∷ []))
      (taken_at port (one_gone (turn_of t r x)))
  had-turn port = elim (cases_eq port 2) [
    | inr apart ↦ subst (AreTurns (byte_ns_at t port) (entries_at t A port (x ∷ [])))
        (sym (none-taken port (turn_of t r x) apart)) tt
    | inl same ↦ subst (λ n. AreTurns (byte_ns_at t n) (entries_at t A n (x ∷ []))
        (taken_at n (one_gone (turn_of t r x)))) (sym same)
        (subst (AreTurns (byte_ns_at t 2) (entries_at t A 2 (x ∷ [])))
        (sym (one-taken (turn_of t r x)))
        (subst (λ s. AreTurns (byte_ns_at t 2) (entries_at t s 2 (x ∷ [])) (turn_of t r x ∷ []))
        on_a (are-turns t r x p)))
  ]

-- ---- the cables

ring-of : (es : List SwitchEvent) (time : ℕ) (ring : List OnCable)
    → AllByRecursion (λ r. r.turn.end ≡ time) ring → AreAscending ring
    → AllByRecursion (λ r. (e : End) × (joined_to r.from.switch r.from.port ≡ Some e)) ring
    → ((side : Side) → brought_by side 1 (in_clock (turns_of 0 side 2 es))
    ≡ map (brought side 1) (from_end side (end_at 0 2) ring) ++ arrivals_at side 1 (came_to 1 es))
    → ((side : Side) → brought_by side 2 (in_clock (turns_of 1 side 1 es))
    ≡ map (brought side 2) (from_end side (end_at 1 1) ring) ++ arrivals_at side 2 (came_to 0 es))
    → IsRing two_switches es time ring
ring-of es time ring at ascending joined there back = record {
  at_time = at;
  ascending = ascending;
  joined = joined;
  carries = λ k port side other is. by k port side other is;
}
  where
    by : (k port : ℕ) (side : Side) (other : End) → joined_to k port ≡ Some other
        → brought_by side port (in_clock (turns_of other.switch side other.port es))
        ≡ map (brought side port) (from_end side other ring) ++ arrivals_at side port (came_to k es)
    by zero port side other is = elim (cases_Bool (port == 2)) [
      | inr apart ↦ absurd (let none : joined_to 0 port ≡ None = rw apart refl in cc)
      | inl here ↦ (let end : joined_to 0 port ≡ Some (end_at 1 1) = rw here refl in
          let same : end_at 1 1 ≡ other = cc in
          subst (λ e. brought_by side port (in_clock (turns_of e.switch side e.port es))
          ≡ map (brought side port) (from_end side e ring) ++ arrivals_at side port (came_to 0 es))
          same
          (subst (λ n. brought_by side n (in_clock (turns_of 1 side 1 es))
          ≡ map (brought side n) (from_end side (end_at 1 1) ring)
          ++ arrivals_at side n (came_to 0 es)) (sym (eqb-true port 2 here)) (back side)))
    ]
    by (suc zero) port side other is = elim (cases_Bool (port == 1)) [
      | inr apart ↦ absurd (let none : joined_to 1 port ≡ None = rw apart refl in cc)
      | inl here ↦ (let end : joined_to 1 port ≡ Some (end_at 0 2) = rw here refl in
          let same : end_at 0 2 ≡ other = cc in
          subst (λ e. brought_by side port (in_clock (turns_of e.switch side e.port es))
          ≡ map (brought side port) (from_end side e ring) ++ arrivals_at side port (came_to 1 es))
          same
          (subst (λ n. brought_by side n (in_clock (turns_of 0 side 2 es))
          ≡ map (brought side n) (from_end side (end_at 0 2) ring)
          ++ arrivals_at side n (came_to 1 es)) (sym (eqb-true port 1 here)) (there side)))
    ]
    by (suc (suc k)) port side other is = absurd (cc is)

abbrev pub on_its_cable : OnCable
on_its_cable = record { from = end_at 0 2; side = A; turn = first_slot }

brings-first : first_slot.end ≤ 1000032768000000 → first_slot.too_old ≡ false
    → brought_by A 1 (in_clock (first_slot ∷ [])) ≡ next_arrival ∷ []
brings-first soon young = rw (nat_lt-false 1000032768000000 first_slot.end soon, young) refl

pub empty-ring : IsRing two_switches [] 0 []
unfolding taken_at
empty-ring = ring-of [] 0 [] tt tt tt (λ side. refl) (λ side. refl)

pub arrived-ring : IsRing two_switches arrived 0 []
unfolding taken_at
arrived-ring = ring-of arrived 0 [] tt tt tt there back
  where
    there : (side : Side) → brought_by side 1 (in_clock (turns_of 0 side 2 arrived))
        ≡ map (brought side 1) (from_end side (end_at 0 2) [])
        ++ arrivals_at side 1 (came_to 1 arrived)
    there side = refl

    back : (side : Side) → brought_by side 2 (in_clock (turns_of 1 side 1 arrived))
        ≡ map (brought side 2) (from_end side (end_at 1 1) [])
        ++ arrivals_at side 2 (came_to 0 arrived)
    back A = refl
    back B = refl

module _ (soon : first_slot.end ≤ 1000032768000000) (young : first_slot.too_old ≡ false) where
  pub left-ring : IsRing two_switches (left first_slot) first_slot.end (on_its_cable ∷ [])
  unfolding taken_at
  left-ring = ring-of (left first_slot) first_slot.end (on_its_cable ∷ [])
      (refl, tt) (tt, tt) ((end_at 1 1, refl), tt) there back
    where
      there : (side : Side) → brought_by side 1 (in_clock (turns_of 0 side 2 (left first_slot)))
          ≡ map (brought side 1) (from_end side (end_at 0 2) (on_its_cable ∷ []))
          ++ arrivals_at side 1 (came_to 1 (left first_slot))
      there A = brings-first soon young
      there B = refl

      back : (side : Side) → brought_by side 2 (in_clock (turns_of 1 side 1 (left first_slot)))
          ≡ map (brought side 2) (from_end side (end_at 1 1) (on_its_cable ∷ []))
          ++ arrivals_at side 2 (came_to 0 (left first_slot))
      back A = refl
      back B = refl

  pub carried-ring : IsRing two_switches (carried_on first_slot) first_slot.end []
  unfolding taken_at
  carried-ring = ring-of (carried_on first_slot) first_slot.end [] tt tt tt there back
    where
      there : (side : Side) → brought_by side 1
          (in_clock (turns_of 0 side 2 (carried_on first_slot)))
          ≡ map (brought side 1) (from_end side (end_at 0 2) [])
          ++ arrivals_at side 1 (came_to 1 (carried_on first_slot))
      there A = brings-first soon young
      there B = refl

      back : (side : Side) → brought_by side 2
          (in_clock (turns_of 1 side 1 (carried_on first_slot)))
          ≡ map (brought side 2) (from_end side (end_at 1 1) [])
          ++ arrivals_at side 2 (came_to 0 (carried_on first_slot))
      back A = refl
      back B = refl

  pub all-ring : IsRing two_switches (left_both first_slot second_slot) first_slot.end []
  unfolding taken_at
  all-ring = ring-of (left_both first_slot second_slot) first_slot.end [] tt tt tt there back
    where
      there : (side : Side)
          → brought_by side 1 (in_clock (turns_of 0 side 2 (left_both first_slot second_slot)))
          ≡ map (brought side 1) (from_end side (end_at 0 2) [])
          ++ arrivals_at side 1 (came_to 1 (left_both first_slot second_slot))
      there A = brings-first soon young
      there B = refl

      back : (side : Side)
          → brought_by side 2 (in_clock (turns_of 1 side 1 (left_both first_slot second_slot)))
          ≡ map (brought side 2) (from_end side (end_at 1 1) [])
          ++ arrivals_at side 2 (came_to 0 (left_both first_slot second_slot))
      back A = refl
      back B = refl

-- ---- the rules

-- no other switch has any events
no-first : (k : ℕ) → (0 == suc (suc k)) ≡ false
no-first k = eqb-other 0 (suc (suc k)) (λ same. omega (arith, same))

no-second : (k : ℕ) → (1 == suc (suc k)) ≡ false
no-second k = eqb-other 1 (suc (suc k)) (λ same. omega (arith, same))

pub after-arrived : (k : ℕ) → at_switch (suc (suc k)) arrived ≡ []
after-arrived k = rw (no-first k) refl

pub after-left : (k : ℕ) → at_switch (suc (suc k)) (left first_slot) ≡ []
after-left k = rw (no-first k) refl

pub after-carried : (k : ℕ) → at_switch (suc (suc k)) (carried_on first_slot) ≡ []
after-carried k = rw (no-first k, no-second k) refl

pub after-both : (k : ℕ) → at_switch (suc (suc k)) (left_both first_slot second_slot) ≡ []
after-both k = rw (no-first k, no-second k) refl

rules-of : (es : List SwitchEvent) (time : ℕ) (ring : List OnCable)
    → IsRing two_switches es time ring
    → ((k port : ℕ) (side : Side) → AreTurns (byte_ns_at (tables_of k) port)
    (entries_at (tables_of k) side port (came_to k es)) (turns_of k side port es))
    → KeepsRules two_switches es
rules-of es time ring is turns = record {
  turns = λ k port side low high. turns k port side;
  cables = λ k port side other joined. record {
    waiting = map (brought side port) (from_end side other ring);
    brings = is.carries k port side other joined;
  };
}

module _ (p : PassesOne tables_before first_row line.arrival)
    (soon : first_slot.end ≤ 1000032768000000) (young : first_slot.too_old ≡ false) where
  pub arrived-rules : KeepsRules two_switches arrived
  arrived-rules = rules-of arrived 0 [] arrived-ring turns
    where
      turns : (k port : ℕ) (side : Side) → AreTurns (byte_ns_at (tables_of k) port)
          (entries_at (tables_of k) side port (came_to k arrived)) (turns_of k side port arrived)
      turns zero port side = none-had tables_before line.arrival side port
      turns (suc zero) port side = no-turns two_switches [] 1 port side refl
      turns (suc (suc k)) port side = no-turns two_switches (at_switch (suc (suc k)) arrived)
          (suc (suc k)) port side (after-arrived k)

  pub left-rules : KeepsRules two_switches (left first_slot)
  left-rules = rules-of (left first_slot) first_slot.end (on_its_cable ∷ [])
      (left-ring soon young) turns
    where
      turns : (k port : ℕ) (side : Side) → AreTurns (byte_ns_at (tables_of k) port)
          (entries_at (tables_of k) side port (came_to k (left first_slot)))
          (turns_of k side port (left first_slot))
      turns zero port A = had-turn tables_before first_row line.arrival p refl port
      turns zero port B = none-had tables_before line.arrival B port
      turns (suc zero) port side = no-turns two_switches [] 1 port side refl
      turns (suc (suc k)) port side = no-turns two_switches
          (at_switch (suc (suc k)) (left first_slot)) (suc (suc k)) port side (after-left k)

  pub carried-rules : KeepsRules two_switches (carried_on first_slot)
  carried-rules = rules-of (carried_on first_slot) first_slot.end [] (carried-ring soon young) turns
    where
      turns : (k port : ℕ) (side : Side) → AreTurns (byte_ns_at (tables_of k) port)
          (entries_at (tables_of k) side port (came_to k (carried_on first_slot)))
          (turns_of k side port (carried_on first_slot))
      turns zero port A = had-turn tables_before first_row line.arrival p refl port
      turns zero port B = none-had tables_before line.arrival B port
      turns (suc zero) port side = none-had tables_after next_arrival side port
      turns (suc (suc k)) port side = no-turns two_switches
          (at_switch (suc (suc k)) (carried_on first_slot)) (suc (suc k)) port side
          (after-carried k)

  pub both-rules : PassesOne tables_after second_row next_arrival
      → KeepsRules two_switches (left_both first_slot second_slot)
  both-rules q =
      rules-of (left_both first_slot second_slot) first_slot.end [] (all-ring soon young) turns
    where
      turns : (k port : ℕ) (side : Side) → AreTurns (byte_ns_at (tables_of k) port)
          (entries_at (tables_of k) side port (came_to k (left_both first_slot second_slot)))
          (turns_of k side port (left_both first_slot second_slot))
      turns zero port A = had-turn tables_before first_row line.arrival p refl port
      turns zero port B = none-had tables_before line.arrival B port
      turns (suc zero) port A = had-turn tables_after second_row next_arrival q refl port
      turns (suc zero) port B = none-had tables_after next_arrival B port
      turns (suc (suc k)) port side = no-turns two_switches
          (at_switch (suc (suc k)) (left_both first_slot second_slot)) (suc (suc k)) port side
          (after-both k)

-- ---- it is accepted at the second switch too

comes-in : (rule_of tables_after link_after).port ≡ 1
unfolding rule_of port_of
comes-in = refl

pub accepted-again : IsAdmittedRun tables_before (line.arrival ∷ []) → IsPlan two_switches
    → KeepsRules two_switches (carried_on first_slot) → names 1 next_arrival.bytes ≡ true
    → reason_of tables_after [] next_arrival ≡ None
accepted-again before plan rules named =
    brought-accepted two_switches (carried_on first_slot) A 0 1 link_before link_after [] [] next_arrival
    plan rules goes-on before next-run refl refl comes-in named
  where
    goes-on : IsNextThere two_switches 0 1 link_before link_after
    goes-on = record {
      place = 0;
      stands = refl;
      next_place = 0;
      next_stands = refl;
      port = 2;
      cable = ap (joined_to 1) comes-in;
      goes = before-goes-two;
      row = record {
        vl = refl;
        bag_ms = refl;
        lmin = refl;
        lmax = refl;
        policing = refl;
        jitter = omega arith;
      };
    }
