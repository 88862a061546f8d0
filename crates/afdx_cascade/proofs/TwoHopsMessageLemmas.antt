-- The example's message comes to the system at the second switch, once.
use Rattle.std.proofs.Common.{◌≡◌, ℕ, zero, suc, ◌+◌, ◌*◌, ◌<◌, ◌≤◌, ◌==◌, List, [], ◌∷◌}
use Rattle.std.proofs.Common.{length, refl, sym, ap, ◌∙◌, subst, arith, inl, inr}
use Rattle.std.specs.Prelude.{Some, slice_get}
use Rattle.std.specs.List.{AllByRecursion}
use Rattle.std.proofs.lemmas.Bool.{cases_Bool, cases_eq}
use Rattle.afdx_frame.specs.Reading.{BuiltIsComputed}
use Rattle.afdx_frame.specs.declared.link.Side.{Side}
use Rattle.afdx_frame.specs.declared.link.Side.TheVariants.{A, B}
use Rattle.afdx_admit.specs.Cascade.{is_sent_here, row_before as row_that_feeds}
use Rattle.afdx_config.specs.LawfulStream.{Sending, IsSent}
use Rattle.afdx_config.specs.Numbers.{after_steps}
use Rattle.afdx_config.specs.Reading.{has_port, link_of, system_named, system_at_port}
use Rattle.afdx_config.specs.SentList.{Message, Sent, sent_at, CanBeSent}
use Rattle.afdx_config.specs.Switches.{far_end, neighbour_named, switch_named}
use Rattle.afdx_port.proofs.TurnLemmas.{eqb-other}
use Rattle.afdx_law_bounds.specs.Outputs.{AreTimed}
use Rattle.afdx_switch.specs.Streams.{AreFirstOf, IsStreamOf}
use Rattle.afdx_law_promises.specs.Examples.{sender, receiver, heard, first_on}
use Rattle.afdx_law_promises.proofs.ExampleLemmas as base
use Rattle.afdx_cascade.specs.Cables.{brought}
use Rattle.afdx_cascade.specs.EndToEnd.{AreAllEvents}
use Rattle.afdx_cascade.specs.Examples.{link_before, switches, tables_before}
use Rattle.afdx_cascade.specs.Plans.{plan_of, tables_of}
use Rattle.afdx_cascade.specs.Receivers.{IsFedOn, IsStreamFrom, IsWayToSystem, heard_by, sent_on}
use Rattle.afdx_cascade.specs.SwitchEvents.{SwitchEvent, came_to, listed}
use Rattle.afdx_cascade.specs.TwoHops as hops
use Rattle.afdx_cascade.specs.TwoHops.{FramePassesBoth, MessagePassesBoth, left_both, line, row_after, row_before}
use Rattle.afdx_cascade.specs.TwoHops.{stream, two_switches}
use Rattle.afdx_cascade.proofs.ExampleLemmas.{are-switches, cascade-admitted, own-one}
use Rattle.afdx_cascade.proofs.MessageLemmas.{one-side}
use Rattle.afdx_cascade.proofs.SamePlanLemmas.{ArePlansSame, all-same, always-same}
use Rattle.afdx_cascade.proofs.TwoHopsAllLemmas.{passes-both}
use Rattle.afdx_cascade.proofs.TwoHopsLemmas.{timed-one}

-- ---- the plan is that of the two switches

same-tables : (k : ℕ) → hops.tables_of k ≡ tables_of switches k
unfolding tables_of
same-tables zero = refl
same-tables (suc zero) = refl
same-tables (suc (suc k)) = refl

same-ends : (k port : ℕ) → hops.joined_to k port ≡ (plan_of switches).far_end k port
unfolding far_end system_at_port switch_named neighbour_named system_named
same-ends zero port = elim (cases_eq port 2) [
  | inl same ↦ subst (λ p. hops.joined_to 0 p ≡ (plan_of switches).far_end 0 p) (sym same) refl
  | inr apart ↦ elim (cases_Bool (1 == port)) [
    | inl is ↦ rw (eqb-other port 2 apart, is) refl
    | inr other ↦ rw (eqb-other port 2 apart, other, eqb-other 2 port (λ same. apart (sym same))) refl
  ]
]
same-ends (suc zero) port = elim (cases_eq port 1) [
  | inl same ↦ subst (λ p. hops.joined_to 1 p ≡ (plan_of switches).far_end 1 p) (sym same) refl
  | inr apart ↦ elim (cases_Bool (2 == port)) [
    | inl is ↦ rw (eqb-other port 1 apart, is) refl
    | inr other ↦ rw (eqb-other port 1 apart, other, eqb-other 1 port (λ same. apart (sym same))) refl
  ]
]
same-ends (suc (suc k)) port = refl

same-plan : ArePlansSame two_switches (plan_of switches)
same-plan = record { tables = same-tables; ends = same-ends }

-- ---- the stream

one-apart : (k r later : ℕ) → slice_get (0 ∷ []) k ≡ Some r → slice_get (0 ∷ []) (k + 1) ≡ Some later
    → r + 1000000 * 1 ≤ later
one-apart zero r later at next = absurd (cc next)
one-apart (suc k) r later at next = absurd (cc at)

can-send : (place : ℕ) (m : Message) → slice_get (heard ∷ []) place ≡ Some m → CanBeSent sender link_before m
can-send place m at = base.one-at (λ i (o : Message). CanBeSent sender link_before o) heard
    (record { buildable = base.heard-buildable; bytes = base.one-byte 7 (omega arith) }) place m at

one-shaped : (k r : ℕ) (y : Sending) → slice_get (0 ∷ []) k ≡ Some r → slice_get stream k ≡ Some y
    → (r ≤ y.time) × (y.time ≤ r + 1000 * 489)
one-shaped k r y at there =
    base.one-at (λ i (z : Sending). slice_get (0 ∷ []) i ≡ Some r → (r ≤ z.time) × (z.time ≤ r + 1000 * 489))
    (record { time = 0; a = first_on A; b = first_on B })
    (λ here. let same : 0 ≡ r = cc here in (omega (arith, same), omega (arith, same))) k y there at

one-sent : BuiltIsComputed → (k : ℕ) (x : Sent) (y : Sending) → sent_at (heard ∷ []) k ≡ Some x
    → slice_get stream k ≡ Some y → IsSent sender link_before x y
unfolding after_steps
one-sent computed zero x y at there =
    let x_is : record { message = heard; number = 0 } ≡ x = cc at in
    let y_is : record { time = 0; a = first_on A; b = first_on B } ≡ y = cc there in
    let is = base.first-sent computed 11 in
    subst (λ z. IsSent sender link_before z y) x_is
    (subst (λ z. IsSent sender link_before (record { message = heard; number = 0 }) z) y_is
    (record { a = is.a; b = is.b; a_length = is.a_length; b_length = is.b_length }))
one-sent computed (suc k) x y at there = absurd (cc there)

is-stream : BuiltIsComputed → IsStreamOf tables_before link_before (heard ∷ []) stream
is-stream computed = record {
  sender = sender;
  stands = refl;
  lawful = record {
    moments = 0 ∷ [];
    moment_count = refl;
    message_count = refl;
    sendable = can-send;
    apart = one-apart;
    shaped = one-shaped;
    sent = one-sent computed;
  };
}

-- ---- the example

way-is : IsWayToSystem switches row_after (row_before ∷ []) 0
unfolding tables_of row_that_feeds is_sent_here switch_named neighbour_named system_named link_of
way-is = record {
  row = record { place = 0; stands = refl };
  are = (refl, refl);
  receiver = receiver;
  stands = refl;
  own = omega arith;
  goes = refl;
}

heard-all : heard_by switches 0 row_after (heard ∷ []) ≡ heard ∷ []
unfolding tables_of has_port
heard-all = refl

module _ (computed : BuiltIsComputed) (p : FramePassesBoth) where
  abbrev events : List SwitchEvent
  events = left_both p.first p.second

  is-listed : AllByRecursion (λ x. x.time ≤ 1000000000000000) (listed (plan_of switches) events)
  unfolding far_end system_at_port switch_named neighbour_named system_named
  is-listed = (omega arith, tt)

  timed : (k : ℕ) → k < 2 → AreTimed (came_to k events)
  timed zero lt = timed-one line.arrival
  timed (suc zero) lt = timed-one (brought A 1 p.first)
  timed (suc (suc k)) lt = absurd (omega (arith, lt))

  whole : AreAllEvents switches events
  whole = record {
    cascade = record {
      are = are-switches;
      admitted = cascade-admitted;
      timed = timed;
      rules = always-same two_switches (plan_of switches) same-plan events p.rules;
    };
    soon = is-listed;
    none = (all-same two_switches (plan_of switches) same-plan (line ∷ []) events p.all).none;
  }

  came-there : sent_on switches events row_before A ≡ line.arrival ∷ []
  unfolding tables_of
  came-there = own-one computed

  first-there : (side : Side) → AreFirstOf side stream (sent_on switches events row_before side)
  first-there A = subst (AreFirstOf A stream) (sym came-there) (
    record {
      sending = record { time = 0; a = first_on A; b = first_on B };
      at_place = refl;
      time = refl;
      bytes = refl;
    },
    tt,
  )
  first-there B = tt

  fed : IsFedOn switches events row_before stream A
  fed = record { frames = first-there A; whole = ap length came-there }

  comes-from : IsStreamFrom switches row_before (heard ∷ []) stream
  unfolding tables_of
  comes-from = is-stream computed

  message-passes : MessagePassesBoth
  message-passes = record {
    are = are-switches;
    admitted = cascade-admitted;
    events = events;
    run = all-same two_switches (plan_of switches) same-plan (line ∷ []) events p.all;
    all = whole;
    way = way-is;
    sends = comes-from;
    fed = fed;
    told = one-side computed switches events whole row_after (row_before ∷ []) 0 (heard ∷ []) stream A way-is
        comes-from first-there fed ∙ heard-all;
  }

pub message-passes-both : BuiltIsComputed → MessagePassesBoth
message-passes-both computed = message-passes computed (passes-both computed)
