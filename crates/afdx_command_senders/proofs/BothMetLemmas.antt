-- The example of both judges meets what is asked.
use Rattle.std.proofs.Common.{◌≡◌, ℕ, zero, suc, Bool, true, false, List, [], ◌∷◌, map, refl, sym, ap, ◌∙◌, subst, arith, true≢false}
use Rattle.std.proofs.lemmas.List.Sorted.{IsPermutation-refl}
use Rattle.std.specs.List.{AllByRecursion}
use Rattle.std.specs.List.Sorted.{IsPermutation}
use Rattle.std.specs.Option.{option_map_or}
use Rattle.std.specs.Prelude.{Option, Some, None, ◌&&◌, filter, slice_get}
use Rattle.afdx_config.proofs.AmongOthersLemmas.{alone-one}
use Rattle.afdx_config.specs.Numbers.{after_steps}
use Rattle.afdx_config.specs.Reading.{link_of, listener_at, system_at_port}
use Rattle.afdx_config.specs.Rows.{LinkRow, SystemRow, is_to}
use Rattle.afdx_conform.specs.Events.{events_of, up_to}
use Rattle.afdx_conform.specs.Findings.{are_same, came_to, closed_to, deviates, does_more, first_named, front_rest}
use Rattle.afdx_conform.specs.Findings.{judged_after, once_named, one_more, skipped, sound_events, strangeness}
use Rattle.afdx_conform.specs.Findings.{thinned_onto, unexplained}
use Rattle.afdx_conform.specs.Histories.{least_from}
use Rattle.afdx_conform.specs.States.{are_behind, first_states, kept, led_by, states_at}
use Rattle.afdx_conform.specs.Streams.{fits, is_begun, is_open}
use Rattle.afdx_frame.specs.Carried.{carried_by, carried_in_body}
use Rattle.afdx_frame.specs.Datagrams.{ones_sum, words}
use Rattle.afdx_frame.specs.Parts.{frame_of}
use Rattle.afdx_frame.specs.Register.{number, shift}
use Rattle.afdx_frame.specs.Sealing.{is_sealed, sequence_of}
use Rattle.afdx_frame.specs.declared.link.Side.{Side}
use Rattle.afdx_frame.specs.declared.link.Side.TheVariants.{A, B}
use Rattle.afdx_input_lines.specs.declared.role.Role.TheVariants.{Left}
use Rattle.afdx_input_runs.specs.Joining.{Frame, frame_with}
use Rattle.afdx_input_sources.specs.Tapping.{all_taps}
use Rattle.afdx_law_bounds.specs.Tables.{byte_ns_at, goes_to, port_of, rule_of}
use Rattle.afdx_law_recorded.proofs.WholeLemmas.{whole_met}
use Rattle.afdx_law_recorded.specs.Receivers.{messages_of, messages_sent}
use Rattle.afdx_law_recorded.specs.Whole.{all_came, heard_tables}
use Rattle.afdx_lawful.specs.Alone.{found_alone, number_in, times_with_room}
use Rattle.afdx_lawful.specs.Flaws.{flaw_of, is_copy, is_whole}
use Rattle.afdx_lawful.specs.Judged.{found_coming, found_of, judged_source}
use Rattle.afdx_lawful.specs.Partners.{is_cut, may_pair, waiting, without_first}
use Rattle.afdx_lawful.specs.Nearness.{hello}
use Rattle.afdx_lawful.specs.Sources.{least_left}
use Rattle.afdx_lawful.specs.Worked.{a0, a1, b0, b1}
use Rattle.afdx_police.specs.Arrival.{arrival_with, names}
use Rattle.afdx_police.specs.Shape.{fault_of}
use Rattle.afdx_receive.specs.Steps.{is_within_steps}
use Rattle.afdx_senders.proofs.ListLemmas.{filter_none}
use Rattle.afdx_senders.specs.AllLines.{all_lines, is_early, lines_coming, lines_when, singles_below}
use Rattle.afdx_senders.specs.Lines.{Line}
use Rattle.afdx_senders.specs.SenderCounts.{alone_up_to}
use Rattle.afdx_senders.specs.SenderRows.{link, receiver}
use Rattle.afdx_senders.specs.Setups.{own_frames, source_at}
use Rattle.afdx_senders.specs.Sites.{is_sent_at, is_site, sent_by, source_of}
use Rattle.afdx_senders.specs.Terms.{id_of}
use Rattle.afdx_command_conform.proofs.KeyLemmas.{link-to, system-at}
use Rattle.afdx_command_conform.proofs.OneAnswerLemmas.{judged-link}
use Rattle.afdx_command_conform.specs.Choices.{counted, counts, is_missed}
use Rattle.afdx_command_conform.specs.Counting.{counted_among, counted_at, counted_to}
use Rattle.afdx_command_conform.specs.Frames.{is_arrival_of, is_stranger, left_at, strangers_of}
use Rattle.afdx_command_conform.specs.Keys.{key_with}
use Rattle.afdx_command_conform.specs.Lines.{AreInOrder, AreLines, dues_by, dues_of, judged_dues, stranger_due, stream_dues}
use Rattle.afdx_command_conform.specs.RunLaws.{AreByTime}
use Rattle.afdx_command_conform.specs.Tapped.{goes_there, is_damaged, is_unheard, judged_to, link_to, place_named, unseen_among, unseen_to}
use Rattle.afdx_command_conform.specs.Telling.{findings_in}
use Rattle.afdx_command_conform.specs.declared.key.Key.{Key}
use Rattle.afdx_command_senders.proofs.SettingLemmas.{is-setting}
use Rattle.afdx_command_senders.specs.Asked.{came_in}
use Rattle.afdx_command_senders.specs.Asked as asking
use Rattle.afdx_command_senders.specs.LinkWays.{ways_among}
use Rattle.afdx_command_senders.specs.SenderLines.{whole_setup}
use Rattle.afdx_command_senders.specs.SenderTexts.{told_lines}
use Rattle.afdx_command_senders.specs.Together.{IsExactTest, SendersFindNothing, SwitchFindsNothing, came_until}
use Rattle.afdx_command_senders.specs.TogetherExample.{BothAreMet, asked, frames, outlook, setting}

-- ---- its one stream on each side

record IsIt (n q : ℕ) (l : LinkRow) : Type 0 where
  pub place : n ≡ 0
  pub port : q ≡ 3
  pub link : l ≡ link

its-place : (place : ℕ) (l : LinkRow) → slice_get heard_tables.links place ≡ Some l → (place ≡ 0) × (l ≡ link)
its-place zero l at = (refl, cc at)
its-place (suc place) l at = absurd (cc at)

its-port : (port : ℕ) → goes_to heard_tables link port ≡ true → port ≡ 3
unfolding goes_to
its-port port goes = by (system_at_port heard_tables.systems port) refl goes
  where
    at : (system : ℕ) (s : SystemRow) → slice_get heard_tables.systems system ≡ Some s → s.port ≡ port
        → is_to system link ≡ true → port ≡ 3
    at zero s is same to = absurd (true≢false (sym to))
    at (suc zero) s is same to = sym same
        ∙ (let here : receiver ≡ s = cc is in ap (λ (x : SystemRow). x.port) (sym here))
    at (suc (suc n)) s is same to = absurd (cc is)

    by : (o : Option ℕ) → system_at_port heard_tables.systems port ≡ o
        → option_map_or (λ system. is_to system link) o false ≡ true → port ≡ 3
    by None is h = absurd (true≢false (sym h))
    by (Some system) is h = let s = system-at heard_tables port system is in at system s.0 s.1 s.2 h

is-it : (side : Side) (place port : ℕ) (l : LinkRow) → judged_to heard_tables asked.run.sight side place port ≡ Some l
    → IsIt place port l
is-it side place port l is =
    let here = link-to heard_tables place port l (judged-link heard_tables asked.run side place port l is) in
    let at = its-place place l here.at in
    record {
      place = at.0;
      port = its-port port (ap (λ (k : LinkRow). goes_to heard_tables k port) (sym at.1) ∙ here.goes);
      link = at.1;
    }

none-here : (side : Side)
    → stream_dues heard_tables asked.run 2005760 frames (key_with side 3 (Some 0)) link ≡ []
unfolding counts is_unheard goes_there is_damaged is_arrival_of left_at names fault_of is_sealed sequence_of shift
    number port_of rule_of byte_ns_at system_at_port place_named link_of link_to goes_to judged_dues events_of up_to
    are_same does_more one_more thinned_onto front_rest first_named once_named strangeness unexplained skipped
    closed_to deviates came_to sound_events judged_after led_by kept are_behind first_states states_at fits is_open
    is_begun
none-here A = refl
none-here B = refl

abbrev on-b1 : Frame
on-b1 = frame_with Left (arrival_with 4 2005760 B 3 b1)

abbrev on-b0 : Frame
on-b0 = frame_with Left (arrival_with 2 1005760 B 3 b0)

abbrev on-a1 : Frame
on-a1 = frame_with Left (arrival_with 3 1005760 A 3 a1)

abbrev on-a0 : Frame
on-a0 = frame_with Left (arrival_with 1 5760 A 3 a0)

none-and : (b : Bool) → (b && false) ≡ false
none-and true = refl
none-and false = refl

all-counted : counted heard_tables asked.run frames ≡ frames
unfolding counts is_unheard goes_there is_damaged place_named link_of link_to goes_to system_at_port port_of fault_of
    is_sealed sequence_of shift number
all-counted = refl

abbrev is_strange : Side → ℕ → Frame → Bool
is_strange side port x = left_at side port x && is_stranger heard_tables asked.run.sight x.arrival

each-none : (side : Side) (port : ℕ) → AllByRecursion (λ x. is_strange side port x ≡ false) frames
unfolding left_at is_stranger goes_there place_named link_of link_to goes_to system_at_port
each-none side port = (
  none-and (left_at side port on-b1),
  (
    refl,
    (
      none-and (left_at side port on-b0),
      (
        none-and (left_at side port on-a1),
        (refl, (refl, (none-and (left_at side port on-a0), (refl, (refl, tt))))),
      ),
    ),
  ),
)

stranger-none : (side : Side) (port : ℕ) → strangers_of heard_tables asked.run side port frames ≡ []
stranger-none side port =
    ap (λ (l : List Frame). map (λ (x : Frame). x.arrival) (filter (is_strange side port) l)) all-counted
    ∙ ap (map (λ (x : Frame). x.arrival)) (filter_none (is_strange side port) frames (each-none side port))

-- ---- all of it

no-dues : (k : Key) → dues_of heard_tables asked.run 2005760 frames k ≡ []
no-dues k = by k.link
  where
    stream : (place port : ℕ) (l : LinkRow) → IsIt place port l
        → stream_dues heard_tables asked.run 2005760 frames (key_with k.side port (Some place)) l ≡ []
    stream place port l is =
        ap (λ (n : ℕ). stream_dues heard_tables asked.run 2005760 frames (key_with k.side port (Some n)) l) is.place
        ∙ ap (λ (n : ℕ). stream_dues heard_tables asked.run 2005760 frames (key_with k.side n (Some 0)) l) is.port
        ∙ ap (λ (m : LinkRow). stream_dues heard_tables asked.run 2005760 frames (key_with k.side 3 (Some 0)) m)
        is.link
        ∙ none-here k.side

    judged : (place : ℕ) (o : Option LinkRow) → judged_to heard_tables asked.run.sight k.side place k.port ≡ o
        → option_map_or (stream_dues heard_tables asked.run 2005760 frames (key_with k.side k.port (Some place))) o []
        ≡ []
    judged place None is = refl
    judged place (Some l) is = stream place k.port l (is-it k.side place k.port l is)

    by : (o : Option ℕ) → dues_by heard_tables asked.run 2005760 frames (key_with k.side k.port o) o ≡ []
    by None = ap (map (stranger_due heard_tables (key_with k.side k.port None))) (stranger-none k.side k.port)
    by (Some place) = judged place (judged_to heard_tables asked.run.sight k.side place k.port) refl

no-due : AreLines heard_tables asked.run 2005760 frames []
unfolding AreInOrder
no-due = record { own = λ k small. sym (no-dues k); only = λ k big. refl; in_order = tt }

came-are : came_in asked frames ≡ all_came
unfolding asking.counts
came-are = refl

no-line : all_lines (whole_setup (setting, asked) frames) all_came ≡ []
unfolding carried_by carried_in_body words ones_sum frame_of shift number is_sealed sequence_of number_in
    times_with_room found_alone flaw_of is_whole is_copy found_of found_coming judged_source without_first
    may_pair waiting is_cut least_left all_lines lines_coming lines_when singles_below after_steps is_within_steps
    own_frames source_at is_sent_at is_site sent_by source_of id_of port_of rule_of link_of listener_at
    system_at_port ways_among
no-line = refl

test : IsExactTest outlook asked
test = record {
  one_switch = refl;
  lawful = alone-one heard_tables whole_met.judged.lawful refl;
  serving = whole_met.judged.serving;
  exact = record { slack = refl; between = refl; drift = refl; inner = refl; asked = refl; start = refl };
  apart = λ ns e. absurd (cc e);
}

senders : SendersFindNothing outlook asked setting frames []
unfolding AreByTime findings_in told_lines alone_up_to source_at
senders = record {
  setting = is-setting outlook asked;
  by_time = (
    omega arith,
    (
      omega arith,
      (
        omega arith,
        (
          omega arith,
          (
            omega arith,
            (
              omega arith,
              (
                omega arith,
                (omega arith, (omega arith, tt)),
              ),
            ),
          ),
        ),
      ),
    ),
  );
  are_all = record {
    are = subst (λ (l : List Line). IsPermutation [] (filter (is_early None) l))
        (sym (ap (all_lines (whole_setup (setting, asked) frames)) came-are ∙ no-line)) (IsPermutation-refl []);
    in_order = tt;
  };
  none = refl;
  alone = refl;
}

switch : SwitchFindsNothing heard_tables asked.run frames []
unfolding counts is_unheard goes_there is_damaged is_arrival_of left_at names fault_of is_sealed sequence_of shift
    number port_of rule_of byte_ns_at system_at_port place_named link_of link_to goes_to events_of up_to
    are_same does_more one_more thinned_onto front_rest first_named once_named strangeness unexplained skipped
    closed_to deviates came_to sound_events judged_after led_by kept are_behind first_states states_at fits is_open
    is_begun counted_at counted_to counted_among findings_in unseen_to unseen_among is_missed least_from
switch = record {
  are_all = no-due;
  none = refl;
  closed = refl;
  left_out = refl;
  unseen = refl;
}

are-sent : messages_sent (own_frames (whole_setup (setting, asked) frames) 0 (came_until None frames))
    ≡ hello ∷ hello ∷ []
unfolding carried_by carried_in_body words ones_sum messages_of own_frames is_sent_at is_site sent_by source_of
    port_of link_of listener_at system_at_port
are-sent = refl

pub both_met : BothAreMet
both_met = record {
  test = test;
  senders = senders;
  switch = switch;
  heard = whole_met.heard;
  sent = are-sent;
  read = whole_met.read;
}
