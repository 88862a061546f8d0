-- The example's frame passes both switches: its turns, and what came to each switch.
use Rattle.std.proofs.Common.{◌≡◌, ℕ, zero, suc, ◌+◌, ◌*◌, ◌≤◌, ◌==◌, Bool, true, false, List, []}
use Rattle.std.proofs.Common.{◌∷◌, length, refl, sym, ap, ◌∙◌, subst, arith, inl, inr}
use Rattle.std.specs.Prelude.{if◌then◌else◌, is_none, Option, Some, None}
use Rattle.std.proofs.lemmas.Bool.{cases_Bool, eqb-true}
use Rattle.afdx_frame.specs.Reading.{BuiltIsComputed}
use Rattle.afdx_frame.specs.declared.link.Side.TheVariants.{A}
use Rattle.afdx_frame.specs.Regulation.{wire_of}
use Rattle.afdx_config.specs.Reading.{system_at_port}
use Rattle.afdx_config.specs.Lawful.{IsLawfulSwitch}
use Rattle.afdx_police.specs.Arrival.{Arrival, names, own}
use Rattle.afdx_police.specs.Rule.{Rule}
use Rattle.afdx_police.specs.Verdicts.{accepted_arrivals, reason_after}
use Rattle.afdx_police.specs.declared.shape.Reason.{Reason}
use Rattle.afdx_port.proofs.TurnLemmas.{eqb-other}
use Rattle.afdx_port.specs.Schedule.{Turn}
use Rattle.afdx_law_bounds.specs.Outputs.{Row, AreTimed}
use Rattle.afdx_switch.specs.Admitted.{IsAdmittedRun}
use Rattle.afdx_switch.specs.HeldFrames.{HeldFrame}
use Rattle.afdx_switch.specs.Tables.{rows_of, row_of, row_named, rule_of, goes_to, carried}
use Rattle.afdx_switch.specs.Tables.{byte_ns_at}
use Rattle.afdx_switch.specs.Verdicts.{reason_of}
use Rattle.afdx_law_promises.specs.Examples.{one, first_on}
use Rattle.afdx_law_promises.proofs.ExampleLemmas as base
use Rattle.afdx_cascade.specs.Examples.{link_before, tables_before, link_after, tables_after}
use Rattle.afdx_cascade.specs.SwitchEvents.{IsPlan, End, end_at}
use Rattle.afdx_cascade.specs.TwoHops.{tables_of, joined_to, two_switches, line}
use Rattle.afdx_cascade.specs.Cables.{brought}
use Rattle.afdx_cascade.proofs.OneFrameLemmas.{PassesOne, turn_of, slot-ends}
use Rattle.afdx_cascade.proofs.ExampleLemmas.{lawful-before, lawful-after, admitted-before, admitted-after}
use Rattle.afdx_cascade.proofs.ExampleLemmas.{accepted-first}

-- ---- the plan

pub two-ends : (k port : ℕ) (e : End) → joined_to k port ≡ Some e
    → (1 ≤ e.port) × (e.port ≤ 24) × (joined_to e.switch e.port ≡ Some (end_at k port))
two-ends zero port e joined = by (port == 2) refl joined
  where
    by : (b : Bool) → (port == 2) ≡ b → (if b then Some (end_at 1 1) else None) ≡ Some e
        → (1 ≤ e.port) × (e.port ≤ 24) × (joined_to e.switch e.port ≡ Some (end_at 0 port))
    by false is j = absurd (cc j)
    by true is j =
        let same : end_at 1 1 ≡ e = cc j in
        let here = eqb-true port 2 is in
        subst (λ (d : End). (1 ≤ d.port) × (d.port ≤ 24)
        × (joined_to d.switch d.port ≡ Some (end_at 0 port))) same
        (omega arith, omega arith, ap (λ p. Some (end_at 0 p)) (sym here))
two-ends (suc zero) port e joined = by (port == 1) refl joined
  where
    by : (b : Bool) → (port == 1) ≡ b → (if b then Some (end_at 0 2) else None) ≡ Some e
        → (1 ≤ e.port) × (e.port ≤ 24) × (joined_to e.switch e.port ≡ Some (end_at 1 port))
    by false is j = absurd (cc j)
    by true is j =
        let same : end_at 0 2 ≡ e = cc j in
        let here = eqb-true port 1 is in
        subst (λ (d : End). (1 ≤ d.port) × (d.port ≤ 24)
        × (joined_to d.switch d.port ≡ Some (end_at 1 port))) same
        (omega arith, omega arith, ap (λ p. Some (end_at 1 p)) (sym here))
two-ends (suc (suc k)) port e joined = absurd (cc joined)

-- ---- what the tables_after say of the link_after

pub only-two : (port : ℕ) → (port ≡ 2 → ⊥) → goes_to tables_after link_after port ≡ false
unfolding goes_to system_at_port
only-two port apart = elim (cases_Bool (1 == port)) [
  | inl is ↦ rw (eqb-other 2 port (λ same. apart (sym same)), is) refl
  | inr other ↦ rw (eqb-other 2 port (λ same. apart (sym same)), other) refl
]

pub goes-two : goes_to tables_after link_after 2 ≡ true
unfolding goes_to system_at_port
goes-two = refl

before-only-two : (port : ℕ) → (port ≡ 2 → ⊥) → goes_to tables_before link_before port ≡ false
unfolding goes_to system_at_port
before-only-two port apart = elim (cases_Bool (1 == port)) [
  | inl is ↦ rw is refl
  | inr other ↦ rw (other, eqb-other 2 port (λ same. apart (sym same))) refl
]

pub before-goes-two : goes_to tables_before link_before 2 ≡ true
unfolding goes_to system_at_port
before-goes-two = refl

pub named-in : (bytes : List ℕ) → names 1 bytes ≡ true
    → row_named tables_after bytes ≡ Some (row_of tables_after link_after)
unfolding row_named rows_of rule_of
named-in bytes is = rw is refl

named-before : (bytes : List ℕ) → names 1 bytes ≡ true
    → row_named tables_before bytes ≡ Some (row_of tables_before link_before)
unfolding row_named rows_of rule_of
named-before bytes is = rw is refl

pub before-byte-time : byte_ns_at tables_before 2 ≡ 80
unfolding byte_ns_at system_at_port
before-byte-time = refl

-- ---- the first switch

pub timed-one : (x : Arrival) → AreTimed (x ∷ [])
timed-one x = ((λ k d lt. absurd (omega (arith, lt))), tt)

first-run : IsAdmittedRun tables_before one
first-run = record {
  lawful = lawful-before;
  admitted = admitted-before;
  timed = timed-one line.arrival;
}

kept-one : (rule : Rule) (x : Arrival) → accepted_arrivals rule (x ∷ []) ≡ x ∷ []
    → reason_after rule [] x ≡ None
unfolding accepted_arrivals
kept-one rule x accepted = by (reason_after rule [] x) refl accepted
  where
    by : (o : Option Reason) → reason_after rule [] x ≡ o
        → (if is_none o then x ∷ [] else []) ≡ x ∷ [] → reason_after rule [] x ≡ None
    by None is all = is
    by (Some reason) is all = absurd (cc all)

first-kept : BuiltIsComputed → reason_of tables_before [] line.arrival ≡ None
unfolding reason_of
first-kept computed =
    let named = base.first-named computed A in
    let own-one : own 1 A one ≡ one = rw named refl in
    let rule = rule_of tables_before link_before in
    rw (named-before (first_on A) named) (kept-one rule line.arrival
    (ap (accepted_arrivals rule) (sym own-one) ∙ accepted-first computed))

-- ---- both switches

abbrev pub first_row : Row
first_row = row_of tables_before link_before

abbrev pub second_row : Row
second_row = row_of tables_after link_after

-- the slot in which the frame leaves the first switch
abbrev pub first_slot : Turn HeldFrame
first_slot = turn_of tables_before first_row line.arrival

-- its arrival at the second, and the slot in which it leaves that one
abbrev pub next_arrival : Arrival
next_arrival = brought A 1 first_slot

abbrev pub second_slot : Turn HeldFrame
second_slot = turn_of tables_after second_row next_arrival

pub first-passes : BuiltIsComputed → PassesOne tables_before first_row line.arrival
first-passes computed = record {
  run = first-run;
  named = named-before (first_on A) (base.first-named computed A);
  accepted = first-kept computed;
  goes = before-goes-two;
  only = before-only-two;
}

pub first-soon : BuiltIsComputed → first_slot.end ≤ 1000032768000000
first-soon computed =
    let ends = slot-ends tables_before first_row line.arrival (first-passes computed) in
    let byte = before-byte-time in
    let long = (base.first-is computed A).long in
    let short : length (first_on A) ≤ 1000 = omega (arith, long) in
    subst (λ n. n ≤ 1000032768000000) (sym ends)
    (subst (λ n. 0 + wire_of (length (first_on A)) * n ≤ 1000032768000000) (sym byte)
    (omega (arith, short)))

pub next-named : BuiltIsComputed → names 1 next_arrival.bytes ≡ true
unfolding carried
next-named computed = base.first-named computed A

pub next-run : IsAdmittedRun tables_after (next_arrival ∷ [])
next-run = record {
  lawful = lawful-after;
  admitted = admitted-after;
  timed = timed-one next_arrival;
}

pub next-passes : names 1 next_arrival.bytes ≡ true
    → reason_of tables_after [] next_arrival ≡ None → PassesOne tables_after second_row next_arrival
next-passes named accepted = record {
  run = next-run;
  named = named-in next_arrival.bytes named;
  accepted = accepted;
  goes = goes-two;
  only = only-two;
}

pub the-plan : IsPlan two_switches
the-plan = record { lawful = lawful; ports = two-ends }
  where
    lawful : (k : ℕ) → IsLawfulSwitch (tables_of k)
    lawful zero = lawful-before
    lawful (suc zero) = lawful-after
    lawful (suc (suc k)) = lawful-before
