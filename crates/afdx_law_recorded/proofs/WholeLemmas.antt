-- The example of a switch meets what is asked.
use Rattle.std.proofs.Common.{◌≡◌, ℕ, zero, suc, ◌+◌, ◌*◌, ◌-◌, ◌<◌, ◌≤◌, true, List, [], ◌∷◌, map}
use Rattle.std.proofs.Common.{refl, sym, ap, ◌∙◌, subst, arith, reverse}
use Rattle.std.specs.Prelude.{All, Some, filter, slice_get, slice_index}
use Rattle.afdx_config.proofs.LawfulLinkLemmas.{example-lawful, with-others}
use Rattle.afdx_config.specs.Admission.{IsServing, byte_ns, flows_to}
use Rattle.afdx_config.specs.Flows.{flow_of_link}
use Rattle.afdx_config.specs.Lawful.{AreDistinct, IsLawfulSwitch, jitter_from_any, jitter_from_system, triple}
use Rattle.afdx_config.specs.Reading as reading
use Rattle.afdx_config.specs.Reading.{are_apart, has_port, is_name, link_of, listener_at, system_at_port}
use Rattle.afdx_config.specs.Rows.{LinkRow, PortRow, SystemRow, example_link, is_to}
use Rattle.afdx_config.specs.Numbers.{after_steps}
use Rattle.afdx_config.specs.declared.rows.Kind.TheVariants.{Sampling}
use Rattle.afdx_frame.specs.Carried.{carried_by, carried_in_body}
use Rattle.afdx_frame.specs.Datagrams.{words, ones_sum}
use Rattle.afdx_frame.specs.Flows.{Flow, IsPortAdmitted, high_load, high_wait, low_wait}
use Rattle.afdx_frame.specs.Parts.{frame_of}
use Rattle.afdx_frame.specs.Register.{shift, number}
use Rattle.afdx_frame.specs.Regulation.{byte_units}
use Rattle.afdx_frame.specs.Sealing.{is_sealed, sequence_of}
use Rattle.afdx_frame.specs.Sides.{is_side}
use Rattle.afdx_frame.specs.declared.link.Priority.TheVariants.{High, Low}
use Rattle.afdx_frame.specs.declared.link.Side.{Side}
use Rattle.afdx_frame.specs.declared.link.Side.TheVariants.{A, B}
use Rattle.afdx_police.specs.Arrival.{names, own}
use Rattle.afdx_police.specs.Shape.{fault_of}
use Rattle.afdx_law_bounds.specs.Tables.{byte_ns_at, port_of, rule_of}
use Rattle.afdx_conform.specs.Events.{events_of, up_to}
use Rattle.afdx_conform.specs.Findings.{are_same, does_more, one_more, thinned_onto, front_rest, first_named}
use Rattle.afdx_conform.specs.Findings.{once_named, strangeness, unexplained, skipped, closed_to, deviates}
use Rattle.afdx_conform.specs.Findings.{came_to, sound_events, judged_after}
use Rattle.afdx_conform.specs.Histories.{least_from}
use Rattle.afdx_conform.specs.States.{led_by, kept, are_behind, first_states, states_at}
use Rattle.afdx_conform.specs.Streams.{fits, is_open, is_begun}
use Rattle.afdx_receive.specs.Delivery.{delivered}
use Rattle.afdx_receive.specs.Steps.{is_within_steps}
use Rattle.afdx_lawful.specs.Alone.{number_in, times_with_room, found_alone}
use Rattle.afdx_lawful.specs.Flaws.{flaw_of, is_whole, is_copy}
use Rattle.afdx_lawful.specs.Judged.{found_of, found_coming, judged_source}
use Rattle.afdx_lawful.specs.Nearness.{hello}
use Rattle.afdx_lawful.specs.Partners.{without_first, may_pair, waiting, is_cut}
use Rattle.afdx_lawful.specs.Sources.{apart_by, least_left, left_by}
use Rattle.afdx_senders.specs.AllLines.{all_lines, lines_coming, lines_when, singles_below}
use Rattle.afdx_senders.specs.SenderRows.{link, receiver, sender}
use Rattle.afdx_senders.specs.Setups.{own_frames, source_at}
use Rattle.afdx_senders.specs.Sites.{is_sent_at, is_site, sent_by, source_of}
use Rattle.afdx_senders.specs.Terms.{id_of, terms_at}
use Rattle.afdx_law_recorded.specs.Examples.{both_heard}
use Rattle.afdx_law_recorded.specs.OneSide.{IsShown}
use Rattle.afdx_law_recorded.specs.Receivers.{heard_as, messages_of, messages_sent}
use Rattle.afdx_law_recorded.specs.Switches.{AllAreJudged, NothingIsTold, left_of, stream_at, way_at}
use Rattle.afdx_law_recorded.specs.Whole.{WholeIsMet, all_came, all_left, heard_setup, heard_tables}

-- ---- the tables

two-distinct : {R X : Type 0} (f : R → X) (a b : R) → (f a ≡ f b → ⊥) → AreDistinct f (a ∷ b ∷ [])
unfolding AreDistinct
two-distinct f a b apart zero zero x y at there same = refl
two-distinct f a b apart (suc zero) (suc zero) x y at there same = refl
two-distinct f a b apart zero (suc zero) x y at there same =
    absurd (let here : a ≡ x = cc at in let last : b ≡ y = cc there in apart (ap f here ∙ same ∙ sym (ap f last)))
two-distinct f a b apart (suc zero) zero x y at there same =
    absurd (let here : b ≡ x = cc at in let last : a ≡ y = cc there in apart (ap f last ∙ sym same ∙ sym (ap f here)))
two-distinct f a b apart (suc (suc i)) j x y at there same = absurd (cc at)
two-distinct f a b apart zero (suc (suc j)) x y at there same = absurd (cc there)
two-distinct f a b apart (suc zero) (suc (suc j)) x y at there same = absurd (cc there)

one-distinct : {R X : Type 0} (f : R → X) (a : R) → AreDistinct f (a ∷ [])
unfolding AreDistinct
one-distinct f a zero zero x y at there same = refl
one-distinct f a (suc i) j x y at there same = absurd (cc at)
one-distinct f a zero (suc j) x y at there same = absurd (cc there)

one-at : {X : Type 0} (P : ℕ → X → Type 0) (a : X) → P 0 a → (i : ℕ) (x : X) → slice_get (a ∷ []) i ≡ Some x → P i x
one-at P a first zero x at = let same : a ≡ x = cc at in subst (P 0) same first
one-at P a first (suc i) x at = absurd (cc at)

two-at : {X : Type 0} (P : ℕ → X → Type 0) (a b : X) → P 0 a → P 1 b → (i : ℕ) (x : X) →
    slice_get (a ∷ b ∷ []) i ≡ Some x → P i x
two-at P a b first second zero x at = let same : a ≡ x = cc at in subst (P 0) same first
two-at P a b first second (suc zero) x at = let same : b ≡ x = cc at in subst (P 1) same second
two-at P a b first second (suc (suc i)) x at = absurd (cc at)

is-lawful : IsLawfulSwitch heard_tables
unfolding is_name are_apart reading.goes_to
is-lawful = record {
  profile = (omega arith, omega arith);
  buffer = (omega arith, omega arith);
  own = omega arith;
  systems = record {
    count = omega arith;
    each = (
      record {
        name = refl;
        port = (omega arith, omega arith);
        id = (omega arith, omega arith);
        partition = (omega arith, omega arith);
        rate = refl;
      },
      (
        record {
          name = refl;
          port = (omega arith, omega arith);
          id = (omega arith, omega arith);
          partition = (omega arith, omega arith);
          rate = refl;
        },
        tt,
      ),
    );
    names = two-distinct (λ (s : SystemRow). s.name) sender receiver
        (λ same. let byte : 49 ≡ 51 = ap (λ (name : List ℕ). slice_index name 1) same in omega (arith, byte));
    ports = two-distinct (λ (s : SystemRow). s.port) sender receiver (λ same. omega (arith, same));
    ids = two-distinct (λ (s : SystemRow). s.id) sender receiver (λ same. omega (arith, same));
    few = omega arith;
    neighbours = tt;
  };
  links = record {
    count = omega arith;
    each = (
      with-others jitter_from_system jitter_from_any 2 example_link
          (example-lawful 2 0 1 (omega arith) (omega arith) refl) link.policing 500 17 1000 (omega arith)
          (omega arith, omega arith) (omega arith, omega arith),
      tt,
    );
    identifiers = one-distinct (λ (l : LinkRow). l.vl) link;
  };
  sent = λ i l at own. one-at (λ k (m : LinkRow). m.jitter_us ≤ jitter_from_system m.bag_ms) link (omega arith) i l at;
  ports = record {
    count = omega arith;
    each = (
      record {
        system = omega arith;
        link = refl;
        udp = (omega arith, omega arith);
        depth = (omega arith, omega arith);
      },
      tt,
    );
    triples = one-distinct triple (record { system = 1; link = 1; udp = 1000; kind = Sampling; depth = 1 });
  };
  heard = λ i p at. one-at (λ k (q : PortRow). q.system < 2)
      (record { system = 1; link = 1; udp = 1000; kind = Sampling; depth = 1 }) (omega arith) i p at;
}

none-there : IsPortAdmitted 80 126 []
none-there = record {
  no_overload = omega arith;
  fits_buffer = omega arith;
  high_in_time = λ k d lt. absurd (omega (arith, lt));
  low_in_time = λ k d lt. absurd (omega (arith, lt));
}

all-one : {X : Type 0} (P : X → Type 0) (x : X) → P x → All P (x ∷ [])
all-one P x own zero d lt = own
all-one P x own (suc k) d lt = absurd (omega (arith, lt))

HighLine : Flow → Type 0
HighLine f = f.priority ≡ High → high_wait 80 (flow_of_link link ∷ []) ≤ f.latency * byte_units

LowLine : Flow → Type 0
LowLine f = f.priority ≡ Low → low_wait 80 (flow_of_link link ∷ [])
    ≤ f.latency * (byte_units - high_load 80 (flow_of_link link ∷ []))

one-there : IsPortAdmitted 80 126 (flow_of_link link ∷ [])
unfolding HighLine LowLine
one-there = record {
  no_overload = omega arith;
  fits_buffer = omega arith;
  high_in_time = all-one HighLine (flow_of_link link) (λ high. omega arith);
  low_in_time = all-one LowLine (flow_of_link link) (λ low. absurd (cc low));
}

is-serving : IsServing heard_tables
is-serving = record {
  ports = two-at (λ i (s : SystemRow). IsPortAdmitted (byte_ns s) 126 (flows_to (link ∷ []) i)) sender receiver
      none-there one-there;
  skews = one-at (λ i (l : LinkRow). l.latency_us ≤ l.skew_us) link (omega arith);
}

-- ---- the senders

left-near : (n : ℕ) → 1000000 - (17000 - (n + 8) * 80) ≤ 1000000 - (17000 - (n + 8) * 80)
left-near n = omega arith

-- at the one receiver of the one link
at-receiver : (P : ℕ → LinkRow → SystemRow → Type 0) → P 0 link receiver → (place system : ℕ) (l : LinkRow)
    (s : SystemRow) → slice_get heard_tables.links place ≡ Some l → slice_get heard_tables.systems system ≡ Some s →
    is_to system l ≡ true → P place l s
at-receiver P own zero zero l s at there goes =
    let row : link ≡ l = cc at in
    absurd (let to : is_to 0 link ≡ true = ap (is_to 0) row ∙ goes in cc to)
at-receiver P own zero (suc zero) l s at there goes =
    let row : link ≡ l = cc at in
    let end : receiver ≡ s = cc there in
    subst (λ (m : LinkRow). P 0 m s) row (subst (λ (r : SystemRow). P 0 link r) end own)
at-receiver P own zero (suc (suc system)) l s at there goes = absurd (cc there)
at-receiver P own (suc place) system l s at there goes = absurd (cc at)

near-here : (bytes : ℕ) →
    apart_by (terms_at heard_tables heard_setup.recorded heard_setup.asked 0 link) heard_setup.asked.given bytes
    ≤ left_by (way_at heard_tables link 3) bytes
unfolding least_left byte_ns_at system_at_port
near-here bytes = left-near bytes

judged : AllAreJudged heard_setup
judged = record {
  lawful = is-lawful;
  serving = is-serving;
  exact = record { slack = refl; between = refl; drift = refl; inner = refl; asked = refl; start = refl };
  judged = λ place l at sends. refl;
  recorded = λ side place l at sends. refl;
  near = λ place system bytes l s at there goes sends long.
      at-receiver (λ (k : ℕ) (m : LinkRow) (r : SystemRow).
      apart_by (terms_at heard_tables heard_setup.recorded heard_setup.asked k m) heard_setup.asked.given bytes
      ≤ left_by (way_at heard_tables m r.port) bytes)
      (near-here bytes) place system l s at there goes;
}

no-line : all_lines heard_setup all_came ≡ []
unfolding carried_by carried_in_body words ones_sum frame_of shift number is_sealed sequence_of number_in
    times_with_room found_alone flaw_of is_whole is_copy found_of found_coming judged_source without_first
    may_pair waiting is_cut least_left all_lines lines_coming lines_when singles_below after_steps is_within_steps
    own_frames source_at is_sent_at is_site sent_by source_of id_of port_of rule_of link_of listener_at
    system_at_port
no-line = refl

shown : (side : Side) → IsShown (stream_at heard_tables heard_setup.asked.by 2005760 link 3)
    (own 1 side all_came) (left_of 1 side 3 all_left)
unfolding is_sealed sequence_of shift number names fault_of are_same does_more one_more thinned_onto front_rest
    first_named once_named strangeness unexplained skipped closed_to deviates came_to sound_events judged_after
    led_by kept are_behind first_states states_at fits is_open is_begun events_of up_to least_from rule_of port_of
    byte_ns_at system_at_port
shown A = record { nothing = refl; closed = refl }
shown B = record { nothing = refl; closed = refl }

told : NothingIsTold heard_setup 2005760 all_came all_left
told = record {
  by_time = (omega arith, (omega arith, (omega arith, (omega arith, (omega arith, tt)))));
  no_line = no-line;
  streams = λ side place system l s at there goes sends.
      at-receiver (λ (k : ℕ) (m : LinkRow) (r : SystemRow).
      IsShown (stream_at heard_tables heard_setup.asked.by 2005760 m r.port) (own m.vl side all_came)
      (left_of m.vl side r.port all_left)) (shown side) place system l s at there goes;
}

sides : (side : Side) → filter (λ f. is_side f.side side) (both_heard 988760)
    ≡ map (heard_as 1 side) (left_of 1 side 3 all_left)
unfolding names
sides A = refl
sides B = refl

are-sent : messages_sent (own_frames heard_setup 0 all_came) ≡ hello ∷ hello ∷ []
unfolding carried_by carried_in_body words ones_sum messages_of own_frames is_sent_at is_site sent_by source_of
    port_of link_of listener_at system_at_port
are-sent = refl

read-once : reverse (delivered 1000000 (has_port heard_tables.ports 1 1) (both_heard 988760)) ≡ hello ∷ hello ∷ []
unfolding carried_by carried_in_body words ones_sum frame_of shift number is_sealed sequence_of after_steps
    is_within_steps delivered has_port
read-once = refl

pub whole_met : WholeIsMet
whole_met = record {
  judged = judged;
  told = told;
  heard = record { sides = sides; by_time = (omega arith, (omega arith, (omega arith, (tt, tt)))) };
  sent = are-sent;
  read = read-once;
}
