-- The example meets what is asked.
use Rattle.std.proofs.Common.{◌≡◌, ℕ, ◌+◌, ◌*◌, ◌-◌, ◌≤◌, [], ◌∷◌, length, map, refl, arith}
use Rattle.std.specs.Prelude.{filter}
use Rattle.afdx_config.specs.Numbers.{after_steps}
use Rattle.afdx_frame.specs.Carried.{carried_by, carried_in_body}
use Rattle.afdx_frame.specs.Datagrams.{words, ones_sum}
use Rattle.afdx_frame.specs.Parts.{frame_of}
use Rattle.afdx_frame.specs.Register.{shift, number}
use Rattle.afdx_frame.specs.Sealing.{is_sealed, sequence_of}
use Rattle.afdx_frame.specs.Sides.{is_side}
use Rattle.afdx_frame.specs.declared.link.Side.{Side}
use Rattle.afdx_frame.specs.declared.link.Side.TheVariants.{A, B}
use Rattle.afdx_police.specs.Arrival.{names}
use Rattle.afdx_police.specs.Shape.{fault_of}
use Rattle.afdx_receive.specs.Steps.{is_within_steps}
use Rattle.afdx_conform.specs.Events.{events_of, up_to}
use Rattle.afdx_conform.specs.Findings.{are_same, does_more, one_more, thinned_onto, front_rest, first_named}
use Rattle.afdx_conform.specs.Findings.{once_named, strangeness, unexplained, skipped, closed_to, deviates}
use Rattle.afdx_conform.specs.Findings.{came_to, sound_events, judged_after}
use Rattle.afdx_conform.specs.Headline.{GoByTime}
use Rattle.afdx_conform.specs.Histories.{least_from}
use Rattle.afdx_conform.specs.States.{led_by, kept, are_behind, first_states, states_at}
use Rattle.afdx_conform.specs.Streams.{fits, is_open, is_begun}
use Rattle.afdx_receive.specs.Delivery.{delivered}
use Rattle.afdx_lawful.specs.Nearness.{hello}
use Rattle.afdx_lawful.specs.Alone.{number_in, times_with_room, found_alone}
use Rattle.afdx_lawful.specs.Flaws.{flaw_of, is_whole, is_copy}
use Rattle.afdx_lawful.specs.Judged.{cut_off, found_of, found_coming, found_single}
use Rattle.afdx_lawful.specs.Partners.{without_first, may_pair, waiting, is_cut}
use Rattle.afdx_lawful.specs.Sources.{least_left}
use Rattle.afdx_law_recorded.specs.Examples.{CutIsMet, cut_came, cut_heard, cut_left, cut_sent}
use Rattle.afdx_law_recorded.specs.Examples.{PremisesAreMet, both_came, both_heard, both_left, both_sent, read}
use Rattle.afdx_law_recorded.specs.Examples.{source_until, stream_until, way_with}
use Rattle.afdx_law_recorded.specs.OneSide.{AreItsArrivals, AreOfOneLink, IsQuietOn, IsShown}
use Rattle.afdx_law_recorded.specs.Pairs.{AreAwaited, IsQuietSource, NoneIsCut}
use Rattle.afdx_law_recorded.specs.Receivers.{AreHeard, IsWayTo, heard_as, messages_of, messages_sent}

one-link : (until : ℕ) → AreOfOneLink (source_until 0 until) (stream_until 0 until)
one-link until = record {
  rule = refl;
  options = refl;
  exact = record { account = record { slack = refl; drift = refl; asked = refl; start = refl }; between = refl };
  bag = refl;
}

quiet-on : (side : Side) → IsQuietOn (source_until 0 2005760) side (both_sent 988760)
unfolding carried_by carried_in_body words ones_sum frame_of shift number is_sealed sequence_of after_steps
    number_in times_with_room found_alone flaw_of is_whole is_copy found_of found_coming names
quiet-on A = record {
  named = (refl, (refl, tt));
  by_time = (omega arith, (omega arith, tt));
  nothing = refl;
}
quiet-on B = record {
  named = (refl, (refl, tt));
  by_time = (omega arith, (omega arith, tt));
  nothing = refl;
}

arrivals : (side : Side) →
    AreItsArrivals (source_until 0 2005760) side (both_sent 988760) (both_came 988760 side)
unfolding GoByTime
arrivals A = record {
  at_port = refl;
  by_time = ((omega arith, (omega arith, tt)), ((omega arith, tt), (tt, tt)));
}
arrivals B = record { at_port = refl; by_time = ((omega arith, tt), (tt, tt)) }

shown : (side : Side) → IsShown (stream_until 0 2005760) (both_came 988760 side) (both_left 988760 side)
unfolding is_sealed sequence_of shift number names fault_of are_same does_more one_more thinned_onto front_rest
    first_named once_named strangeness unexplained skipped closed_to deviates came_to sound_events judged_after
    led_by kept are_behind first_states states_at fits is_open is_begun events_of up_to least_from
shown A = record { nothing = refl; closed = refl }
shown B = record { nothing = refl; closed = refl }

left-least : (n : ℕ) → 1000000 - (17000 - (n + 8) * 80) ≤ 100000000
left-least n = omega arith

awaited : AreAwaited (source_until 0 2005760)
unfolding least_left
awaited bytes = left-least bytes

none-single : (side : Side) → found_single (source_until 0 2005760) side (both_sent 988760) ≡ []
unfolding carried_by carried_in_body words ones_sum frame_of shift number is_sealed sequence_of after_steps
    is_within_steps number_in times_with_room found_alone flaw_of is_whole is_copy
    without_first may_pair waiting is_cut least_left
none-single A = refl
none-single B = refl

quiet-source : IsQuietSource (source_until 0 2005760) (both_sent 988760)
unfolding carried_by carried_in_body words ones_sum frame_of shift number is_sealed sequence_of after_steps
    is_within_steps number_in times_with_room found_alone flaw_of is_whole is_copy found_of found_coming names
    without_first may_pair waiting is_cut least_left
quiet-source = record {
  paired = refl;
  start = refl;
  named = (refl, (refl, (refl, (refl, tt))));
  by_time = (omega arith, (omega arith, (omega arith, (omega arith, tt))));
  coming = refl;
  single = none-single;
}

uncut : NoneIsCut (source_until 0 2005760) (both_sent 988760)
unfolding carried_by carried_in_body words ones_sum frame_of shift number is_sealed sequence_of after_steps
    is_within_steps number_in times_with_room found_alone flaw_of is_whole is_copy
    without_first may_pair waiting is_cut least_left
uncut A = refl
uncut B = refl

way-to : (until : ℕ) → IsWayTo (source_until 0 until) (stream_until 0 until) (way_with 1000000)
unfolding least_left
way-to until = record {
  link = one-link until;
  rule = record {
    port_first = omega arith;
    port_last = omega arith;
    bag = refl;
    shortest = omega arith;
    ordered = omega arith;
    longest = omega arith;
    jitter = omega arith;
  };
  latency = refl;
  line = refl;
  skew = omega arith;
  longest = omega arith;
  slowest = omega arith;
  inner = refl;
  near = λ bytes long. omega arith;
}

both-sides : (side : Side) → filter (λ f. is_side f.side side) (both_heard 988760)
    ≡ map (heard_as 1 side) (both_left 988760 side)
both-sides A = refl
both-sides B = refl

heard : AreHeard 1 (both_left 988760) (both_heard 988760)
heard = record {
  sides = both-sides;
  by_time = (omega arith, (omega arith, (omega arith, (tt, tt))));
}

read-once : read 1000000 (both_heard 988760) ≡ hello ∷ hello ∷ []
unfolding carried_by carried_in_body words ones_sum frame_of shift number is_sealed sequence_of after_steps
    is_within_steps delivered
read-once = refl

are-sent : messages_sent (both_sent 988760) ≡ hello ∷ hello ∷ []
unfolding carried_by carried_in_body words ones_sum messages_of
are-sent = refl

pub premises_met : PremisesAreMet
premises_met = record {
  one_link = one-link 2005760;
  quiet_on = quiet-on;
  arrivals = arrivals;
  shown = shown;
  awaited = awaited;
  quiet = quiet-source;
  uncut = uncut;
  way = way-to 2005760;
  heard = heard;
  sent = are-sent;
  told = read-once;
}

-- ---- where a copy is cut off

cut-single : (side : Side) → found_single (source_until 0 1200000) side cut_sent ≡ []
unfolding carried_by carried_in_body words ones_sum frame_of shift number is_sealed sequence_of after_steps
    is_within_steps number_in times_with_room found_alone flaw_of is_whole is_copy
    without_first may_pair waiting is_cut least_left
cut-single A = refl
cut-single B = refl

cut-quiet : IsQuietSource (source_until 0 1200000) cut_sent
unfolding carried_by carried_in_body words ones_sum frame_of shift number is_sealed sequence_of after_steps
    is_within_steps number_in times_with_room found_alone flaw_of is_whole is_copy found_of found_coming names
    without_first may_pair waiting is_cut least_left
cut-quiet = record {
  paired = refl;
  start = refl;
  named = (refl, (refl, (refl, tt)));
  by_time = (omega arith, (omega arith, (omega arith, tt)));
  coming = refl;
  single = cut-single;
}

one-cut : length (cut_off (source_until 0 1200000) A cut_sent) ≡ 1
unfolding carried_by carried_in_body words ones_sum frame_of shift number is_sealed sequence_of after_steps
    is_within_steps number_in times_with_room found_alone flaw_of is_whole is_copy
    without_first may_pair waiting is_cut least_left
one-cut = refl

cut-arrivals : (side : Side) → AreItsArrivals (source_until 0 1200000) side cut_sent (cut_came side)
unfolding GoByTime
cut-arrivals A = record {
  at_port = refl;
  by_time = ((omega arith, (omega arith, tt)), ((omega arith, tt), (tt, tt)));
}
cut-arrivals B = record { at_port = refl; by_time = (tt, tt) }

cut-shown : (side : Side) → IsShown (stream_until 0 1200000) (cut_came side) (cut_left side)
unfolding is_sealed sequence_of shift number names fault_of are_same does_more one_more thinned_onto front_rest
    first_named once_named strangeness unexplained skipped closed_to deviates came_to sound_events judged_after
    led_by kept are_behind first_states states_at fits is_open is_begun events_of up_to least_from
cut-shown A = record { nothing = refl; closed = refl }
cut-shown B = record { nothing = refl; closed = refl }

cut-sides : (side : Side) → filter (λ f. is_side f.side side) cut_heard ≡ map (heard_as 1 side) (cut_left side)
cut-sides A = refl
cut-sides B = refl

cut-read : read 1000000 cut_heard ≡ hello ∷ hello ∷ []
unfolding carried_by carried_in_body words ones_sum frame_of shift number is_sealed sequence_of after_steps
    is_within_steps delivered
cut-read = refl

cut-are-sent : messages_sent cut_sent ≡ hello ∷ hello ∷ []
unfolding carried_by carried_in_body words ones_sum messages_of
cut-are-sent = refl

pub cut_met : CutIsMet
cut_met = record {
  quiet = cut-quiet;
  cut = one-cut;
  arrivals = cut-arrivals;
  shown = cut-shown;
  way = way-to 1200000;
  heard = record { sides = cut-sides; by_time = (omega arith, (omega arith, (tt, tt))) };
  sent = cut-are-sent;
  told = cut-read;
}
