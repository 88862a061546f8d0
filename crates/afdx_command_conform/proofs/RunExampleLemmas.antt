-- The premises of the laws are met.
use Rattle.std.proofs.Common.{◌≡◌, ℕ, zero, suc, ◌≤◌, Bool, true, false, inl, inr, List, [], ◌∷◌, map, refl, sym, ap, ◌∙◌, subst, arith, true≢false}
use Rattle.std.specs.Prelude.{Option, Some, None, ◌&&◌, filter, slice_get, slice_index, if◌then◌else◌}
use Rattle.std.specs.Option.{option_map_or}
use Rattle.afdx_law_bounds.specs.Tables.{byte_ns_at, goes_to, port_of, rule_of}
use Rattle.afdx_config.proofs.LawfulLinkLemmas.{example-lawful, with-others}
use Rattle.afdx_config.specs.Lawful.{AreDistinct, IsLawfulSwitch, jitter_from_any, jitter_from_system, triple}
use Rattle.afdx_config.specs.Reading as reading
use Rattle.afdx_config.specs.Reading.{are_apart, is_name, link_of, system_at_port}
use Rattle.afdx_config.specs.Rows.{LinkRow, SystemRow, example_link, is_to}
use Rattle.afdx_frame.specs.Register.{number, shift}
use Rattle.afdx_frame.specs.Sealing.{is_sealed, sequence_of}
use Rattle.afdx_frame.specs.declared.link.Side.{Side}
use Rattle.afdx_frame.specs.declared.link.Side.TheVariants.{A, B}
use Rattle.afdx_input_runs.specs.Joining.{Frame}
use Rattle.afdx_input_lines.specs.declared.role.Role.TheVariants.{Left}
use Rattle.afdx_police.specs.Arrival.{Arrival, arrival_with, names}
use Rattle.afdx_police.specs.Shape.{fault_of}
use Rattle.afdx_police.specs.Window.{keeps_windows}
use Rattle.afdx_conform.specs.Events.{events_of, up_to}
use Rattle.afdx_conform.specs.Findings.{are_same, came_to, closed_to, deviates, does_more, first_named, front_rest, judged_after, once_named, one_more, skipped, sound_events, strangeness, thinned_onto, unexplained}
use Rattle.afdx_conform.specs.Headline.{sound_of}
use Rattle.afdx_conform.specs.Histories.{least_from}
use Rattle.afdx_conform.specs.Right.{AllLeaveLater, Asked, EachLeaves, GoByClock, accepted_after, accepted_asked}
use Rattle.afdx_conform.specs.States.{are_behind, first_states, kept, led_by, states_at}
use Rattle.afdx_conform.specs.Streams.{fits, is_begun, is_open}
use Rattle.afdx_conform.specs.Worked.{frame_bytes}
use Rattle.afdx_command_conform.specs.Choices.{counted, counts, is_missed}
use Rattle.afdx_command_conform.specs.Counting.{counted_among, counted_at, counted_to}
use Rattle.afdx_command_conform.specs.Frames.{frame_with, is_arrival_of, is_stranger, left_at, strangers_of, terms_at}
use Rattle.afdx_command_conform.specs.Keys.{is_key, key_with}
use Rattle.afdx_command_conform.specs.Lines.{AreInOrder, AreLines, Due, dues_by, dues_of, judged_dues, of_key, stranger_due, stream_dues}
use Rattle.afdx_command_conform.specs.RunExample.{PremisesAreMet, choices, frames_at, late_line, link, receiver, sender, tables}
use Rattle.afdx_command_conform.specs.RunLaws.{AreByTime, IsOfRight, sound_at, uncut_at}
use Rattle.afdx_command_conform.specs.Tapped.{goes_there, is_damaged, is_unheard, judged_to, link_to, place_named, unseen_among, unseen_to}
use Rattle.afdx_command_conform.specs.Telling.{findings_in}
use Rattle.afdx_command_conform.specs.declared.key.Key.{Key}
use Rattle.afdx_command_conform.proofs.KeyLemmas.{key-cases, key-same, key-self, link-to, system-at}
use Rattle.afdx_command_conform.proofs.OfKeyLemmas.{other-key}
use Rattle.afdx_command_conform.proofs.OneAnswerLemmas.{judged-link}

-- ---- the tables

two-distinct : {R X : Type 0} (f : R → X) (a b : R) → (f a ≡ f b → ⊥) → AreDistinct f (a ∷ b ∷ [])
unfolding AreDistinct
two-distinct f a b apart zero zero x y at there same = refl
two-distinct f a b apart (suc zero) (suc zero) x y at there same = refl
two-distinct f a b apart zero (suc zero) x y at there same =
    absurd (let here : a ≡ x = cc at in let last : b ≡ y = cc there in apart (ap f here ∙ same ∙ sym (ap f last)))
two-distinct f a b apart (suc zero) zero x y at there same =
    absurd (let here : b ≡ x = cc at in let last : a ≡ y = cc there in apart (ap f last ∙ sym same ∙ sym (ap f here)))
two-distinct f a b apart (suc (suc i)) j x y at there same = absurd (cc at)
two-distinct f a b apart zero (suc (suc j)) x y at there same = absurd (cc there)
two-distinct f a b apart (suc zero) (suc (suc j)) x y at there same = absurd (cc there)

one-distinct : {R X : Type 0} (f : R → X) (a : R) → AreDistinct f (a ∷ [])
unfolding AreDistinct
one-distinct f a zero zero x y at there same = refl
one-distinct f a (suc i) j x y at there same = absurd (cc at)
one-distinct f a zero (suc j) x y at there same = absurd (cc there)

none-distinct : {R X : Type 0} (f : R → X) → AreDistinct f []
unfolding AreDistinct
none-distinct f i j x y at there same = absurd (cc at)

-- a link that one of the first ends sends
first-link : (P : LinkRow → Type 0) (i : ℕ) (l : LinkRow) → slice_get (link ∷ []) i ≡ Some l → P link → P l
first-link P zero l at h = let same : link ≡ l = cc at in subst P same h
first-link P (suc i) l at h = absurd (cc at)

is-lawful : IsLawfulSwitch tables
unfolding is_name are_apart reading.goes_to
is-lawful = record {
  profile = (omega arith, omega arith);
  buffer = (omega arith, omega arith);
  own = omega arith;
  systems = record {
    count = omega arith;
    each = (
      record {
        name = refl;
        port = (omega arith, omega arith);
        id = (omega arith, omega arith);
        partition = (omega arith, omega arith);
        rate = refl;
      },
      (
        record {
          name = refl;
          port = (omega arith, omega arith);
          id = (omega arith, omega arith);
          partition = (omega arith, omega arith);
          rate = refl;
        },
        tt,
      ),
    );
    names = two-distinct (λ (s : SystemRow). s.name) sender receiver
        (λ same. let byte : 49 ≡ 51 = ap (λ (name : List ℕ). slice_index name 1) same in omega (arith, byte));
    ports = two-distinct (λ (s : SystemRow). s.port) sender receiver (λ same. omega (arith, same));
    ids = two-distinct (λ (s : SystemRow). s.id) sender receiver (λ same. omega (arith, same));
    few = omega arith;
    neighbours = tt;
  };
  links = record {
    count = omega arith;
    each = (
      with-others jitter_from_system jitter_from_any 2 example_link
          (example-lawful 2 0 1 (omega arith) (omega arith) refl) link.policing 500 17 1000 (omega arith)
          (omega arith, omega arith) (omega arith, omega arith),
      tt,
    );
    identifiers = one-distinct (λ (l : LinkRow). l.vl) link;
  };
  sent = λ i l at own. first-link (λ (l : LinkRow). l.jitter_us ≤ jitter_from_system l.bag_ms) i l at (omega arith);
  ports = record {
    count = omega arith;
    each = tt;
    triples = none-distinct triple;
  };
  heard = λ i p at. absurd (cc at);
}

-- ---- its one stream

record IsIt (n q : ℕ) (l : LinkRow) : Type 0 where
  pub place : n ≡ 0
  pub port : q ≡ 3
  pub link : l ≡ link

its-place : (place : ℕ) (l : LinkRow) → slice_get tables.links place ≡ Some l → (place ≡ 0) × (l ≡ link)
its-place zero l at = (refl, cc at)
its-place (suc place) l at = absurd (cc at)

its-port : (port : ℕ) → goes_to tables link port ≡ true → port ≡ 3
unfolding goes_to
its-port port goes = by (system_at_port tables.systems port) refl goes
  where
    at : (system : ℕ) (s : SystemRow) → slice_get tables.systems system ≡ Some s → s.port ≡ port
        → is_to system link ≡ true → port ≡ 3
    at zero s is same to = absurd (true≢false (sym to))
    at (suc zero) s is same to = sym same
        ∙ (let here : receiver ≡ s = cc is in ap (λ (x : SystemRow). x.port) (sym here))
    at (suc (suc n)) s is same to = absurd (cc is)

    by : (o : Option ℕ) → system_at_port tables.systems port ≡ o → option_map_or (λ system. is_to system link) o false
        ≡ true
        → port ≡ 3
    by None is h = absurd (true≢false (sym h))
    by (Some system) is h = let s = system-at tables port system is in at system s.0 s.1 s.2 h

is-it : (side : Side) (place port : ℕ) (l : LinkRow) → judged_to tables choices.sight side place port ≡ Some l
    → IsIt place port l
is-it side place port l is =
    let here = link-to tables place port l (judged-link tables choices side place port l is) in
    let at = its-place place l here.at in
    record {
      place = at.0;
      port = its-port port (ap (λ (k : LinkRow). goes_to tables k port) (sym at.1) ∙ here.goes);
      link = at.1;
    }

-- ---- lines of other keys

none-and : (b : Bool) → (b && false) ≡ false
none-and true = refl
none-and false = refl

abbrev its-key : Key
its-key = key_with A 3 (Some 0)

module _ (time : ℕ) (all : counted tables choices (frames_at time) ≡ frames_at time) where
  no-strangers : (side : Side) (port : ℕ) → strangers_of tables choices side port (frames_at time) ≡ []
  unfolding left_at is_stranger goes_there place_named link_to link_of goes_to system_at_port
  no-strangers side port =
      ap (λ (fs : List Frame). map (λ x. x.arrival)
      (filter (λ x. left_at side port x && is_stranger tables choices.sight x.arrival) fs)) all
      ∙ ap (λ (b : Bool). map (λ (x : Frame). x.arrival)
      (if b then frame_with Left (arrival_with 1 time A 3 frame_bytes) ∷ [] else []))
      (none-and (left_at side port (frame_with Left (arrival_with 1 time A 3 frame_bytes))))

  module _ (b-none : stream_dues tables choices time (frames_at time) (key_with B 3 (Some 0)) link ≡ []) where
    others-none : (k : Key) → is_key k its-key ≡ false → dues_of tables choices time (frames_at time) k ≡ []
    others-none k other = by k.link refl
      where
        on-side : (side : Side) → is_key (key_with side 3 (Some 0)) its-key ≡ false
            → stream_dues tables choices time (frames_at time) (key_with side 3 (Some 0)) link ≡ []
        on-side A e = absurd (true≢false (sym (key-self its-key) ∙ e))
        on-side B e = b-none

        stream : (place port : ℕ) (l : LinkRow) → IsIt place port l → is_key (key_with k.side port (Some place))
            its-key ≡ false
            → stream_dues tables choices time (frames_at time) (key_with k.side port (Some place)) l ≡ []
        stream place port l is e =
            ap (λ (n : ℕ). stream_dues tables choices time (frames_at time) (key_with k.side port (Some n)) l) is.place
            ∙ ap (λ (n : ℕ). stream_dues tables choices time (frames_at time) (key_with k.side n (Some 0)) l) is.port
            ∙ ap (λ (m : LinkRow). stream_dues tables choices time (frames_at time) (key_with k.side 3 (Some 0)) m)
            is.link
            ∙ on-side k.side (ap (λ (n : ℕ). is_key (key_with k.side 3 (Some n)) its-key) (sym is.place)
            ∙ ap (λ (n : ℕ). is_key (key_with k.side n (Some place)) its-key) (sym is.port) ∙ e)

        judged : (place : ℕ) → is_key (key_with k.side k.port (Some place)) its-key ≡ false
            → (o : Option LinkRow) → judged_to tables choices.sight k.side place k.port ≡ o
            → option_map_or (stream_dues tables choices time (frames_at time) (key_with k.side k.port (Some place))) o
            [] ≡ []
        judged place e None is = refl
        judged place e (Some l) is = stream place k.port l (is-it k.side place k.port l is) e

        by : (o : Option ℕ) → k.link ≡ o
            → dues_by tables choices time (frames_at time) (key_with k.side k.port o) o ≡ []
        by None is =
            ap (λ (xs : List Arrival). map (stranger_due tables (key_with k.side k.port None)) xs)
            (no-strangers k.side k.port)
        by (Some place) is =
            judged place (ap (λ (o : Option ℕ). is_key (key_with k.side k.port o) its-key) (sym is) ∙ other)
            (judged_to tables choices.sight k.side place k.port) refl

-- ---- all of it

came : Asked
came = record { arrival = arrival_with 1 0 A 1 frame_bytes; moment = 0; clock = 0; asked_at = 0; asked_clock = 0 }

its-lines : (time : ℕ) (lines : List Due) → counted tables choices (frames_at time) ≡ frames_at time
    → stream_dues tables choices time (frames_at time) (key_with B 3 (Some 0)) link ≡ []
    → of_key its-key lines ≡ dues_of tables choices time (frames_at time) its-key
    → ((k : Key) → is_key k its-key ≡ false → of_key k lines ≡ []) → AreInOrder lines
    → AreLines tables choices time (frames_at time) lines
its-lines time lines all b-none own others order = record {
  own = λ k small. elim (key-cases k its-key) [
    | inl same ↦ subst (λ (q : Key). of_key q lines ≡ dues_of tables choices time (frames_at time) q)
        (sym (key-same k its-key same)) own
    | inr other ↦ others k other ∙ sym (others-none time all b-none k other)
  ];
  only = λ k big. elim (key-cases k its-key) [
    | inl same ↦ absurd (let port = ap (λ (q : Key). q.port) (key-same k its-key same) in omega (arith, big, port))
    | inr other ↦ others k other
  ];
  in_order = order;
}

its-right : (side : Side) → IsOfRight (terms_at tables choices 6720 link 3)
    (sound_at tables choices 6720 (frames_at 6720) link side)
    (uncut_at tables choices 6720 (frames_at 6720) link side 3)
unfolding came counts is_unheard goes_there is_damaged is_arrival_of left_at names sound_of fault_of is_sealed sequence_of shift
    number port_of rule_of byte_ns_at system_at_port place_named link_of accepted_asked accepted_after keeps_windows
    GoByClock EachLeaves AllLeaveLater
its-right A = record {
  asked = came ∷ [];
  arrivals = refl;
  is_right = record {
    first = [];
    moment = 0;
    clock = 0;
    is_first = refl;
    go_on = (
      record { moments = omega arith; clocks = omega arith; slowest = omega arith; fastest = omega arith },
      record {
        stamped = record { late = omega arith; early = omega arith };
        not_before = omega arith;
        soon = omega arith;
      },
      tt,
    );
    waiting = [];
    took = came ∷ [];
    accepted = refl;
    later = tt;
    leave = (
      record {
        bytes = refl;
        moment = 6720;
        clock = 6720;
        goes_on = record { moments = omega arith; clocks = omega arith; slowest = omega arith; fastest = omega arith };
        stamped = record { late = omega arith; early = omega arith };
        no_sooner = omega arith;
        in_time = omega arith;
      },
      tt,
    );
  };
}
its-right B = record {
  asked = [];
  arrivals = refl;
  is_right = record {
    first = [];
    moment = 0;
    clock = 0;
    is_first = refl;
    go_on = tt;
    waiting = [];
    took = [];
    accepted = refl;
    later = tt;
    leave = tt;
  };
}

pub premises_met : PremisesAreMet
unfolding counts is_unheard goes_there is_damaged is_arrival_of left_at names sound_of fault_of is_sealed sequence_of shift
    number port_of rule_of byte_ns_at system_at_port place_named link_of link_to goes_to judged_to judged_dues is_key
    AreByTime AreInOrder
    events_of up_to are_same does_more one_more thinned_onto front_rest first_named once_named strangeness unexplained
    skipped closed_to deviates came_to sound_events judged_after led_by kept are_behind first_states states_at fits
    is_open is_begun counted_at counted_to counted_among findings_in unseen_to unseen_among is_missed least_from
premises_met = record {
  lawful = is-lawful;
  exact = record { slack = refl; between = refl; drift = refl; asked = refl; start = refl };
  by_time = (omega arith, (omega arith, tt));
  is_right = record {
    none_strange = λ side port small. no-strangers 6720 refl side port;
    streams = λ side place port l is.
        let it = is-it side place port l is in
        subst (λ (n : ℕ). IsOfRight (terms_at tables choices 6720 l n) (sound_at tables choices 6720 (frames_at 6720)
        l side)
        (uncut_at tables choices 6720 (frames_at 6720) l side n)) (sym it.port)
        (subst (λ (m : LinkRow). IsOfRight (terms_at tables choices 6720 m 3)
        (sound_at tables choices 6720 (frames_at 6720) m side)
        (uncut_at tables choices 6720 (frames_at 6720) m side 3)) (sym it.link) (its-right side));
  };
  no_line = its-lines 6720 [] refl refl refl (λ k other. refl) tt;
  one_line = its-lines 17001 (late_line ∷ []) refl refl refl (λ k other. other-key k late_line [] other)
      (omega arith, tt);
  conforms = refl;
  deviates = refl;
}
