-- Without one of the premises a message is read twice.
use Rattle.std.proofs.Common.{◌≡◌, [], map, refl, arith}
use Rattle.std.specs.Prelude.{filter, None, Some}
use Rattle.afdx_config.specs.Numbers.{after_steps}
use Rattle.afdx_frame.specs.Carried.{carried_by, carried_in_body}
use Rattle.afdx_frame.specs.Datagrams.{words, ones_sum}
use Rattle.afdx_frame.specs.Parts.{frame_of}
use Rattle.afdx_frame.specs.Register.{shift, number}
use Rattle.afdx_frame.specs.Sealing.{is_sealed, sequence_of}
use Rattle.afdx_frame.specs.Sides.{is_side}
use Rattle.afdx_frame.specs.declared.link.Side.{Side}
use Rattle.afdx_frame.specs.declared.link.Side.TheVariants.{A, B}
use Rattle.afdx_police.specs.Arrival.{names}
use Rattle.afdx_police.specs.Shape.{fault_of}
use Rattle.afdx_receive.specs.Delivery.{delivered}
use Rattle.afdx_receive.specs.Steps.{is_within_steps}
use Rattle.afdx_conform.specs.Events.{events_of, up_to}
use Rattle.afdx_conform.specs.Findings.{are_same, does_more, one_more, thinned_onto, front_rest, first_named}
use Rattle.afdx_conform.specs.Findings.{once_named, strangeness, unexplained, skipped, closed_to, deviates}
use Rattle.afdx_conform.specs.Findings.{came_to, sound_events, judged_after}
use Rattle.afdx_conform.specs.Headline.{GoByTime}
use Rattle.afdx_conform.specs.Histories.{least_from}
use Rattle.afdx_conform.specs.States.{led_by, kept, are_behind, first_states, states_at}
use Rattle.afdx_conform.specs.Streams.{fits, is_open, is_begun}
use Rattle.afdx_lawful.specs.Alone.{number_in, times_with_room, found_alone}
use Rattle.afdx_lawful.specs.Flaws.{flaw_of, is_whole, is_copy}
use Rattle.afdx_lawful.specs.Judged.{found_of, found_coming, found_single}
use Rattle.afdx_lawful.specs.Partners.{without_first, may_pair, waiting, is_cut}
use Rattle.afdx_lawful.specs.Sources.{least_left}
use Rattle.afdx_law_recorded.specs.Examples.{EachIsNeeded, IsReadTwice, one_came, one_heard, one_left, one_sent}
use Rattle.afdx_law_recorded.specs.Examples.{source_with, stream_until}
use Rattle.afdx_law_recorded.specs.OneSide.{AreItsArrivals, IsShown}
use Rattle.afdx_law_recorded.specs.Pairs.{IsQuietSource}
use Rattle.afdx_law_recorded.specs.Receivers.{heard_as, messages_of}

-- ---- a nanosecond inside

inner-single : (side : Side) → found_single (source_with 1 None 1000000 1005761) side (one_sent 988760) ≡ []
unfolding carried_by carried_in_body words ones_sum frame_of shift number is_sealed sequence_of after_steps
    is_within_steps number_in times_with_room found_alone flaw_of is_whole is_copy
    without_first may_pair waiting is_cut least_left
inner-single A = refl
inner-single B = refl

inner-quiet : IsQuietSource (source_with 1 None 1000000 1005761) (one_sent 988760)
unfolding carried_by carried_in_body words ones_sum frame_of shift number is_sealed sequence_of after_steps
    is_within_steps number_in times_with_room found_alone flaw_of is_whole is_copy found_of found_coming names
    without_first may_pair waiting is_cut least_left
inner-quiet = record {
  paired = refl;
  start = refl;
  named = (refl, (refl, tt));
  by_time = (omega arith, (omega arith, tt));
  coming = refl;
  single = inner-single;
}

inner-arrivals : (side : Side) →
    AreItsArrivals (source_with 1 None 1000000 1005761) side (one_sent 988760) (one_came 988760 side)
unfolding GoByTime
inner-arrivals A = record { at_port = refl; by_time = (tt, tt) }
inner-arrivals B = record { at_port = refl; by_time = (tt, tt) }

inner-shown : (side : Side) → IsShown (stream_until 1 1005761) (one_came 988760 side) (one_left 1005761 side)
unfolding is_sealed sequence_of shift number names fault_of are_same does_more one_more thinned_onto front_rest
    first_named once_named strangeness unexplained skipped closed_to deviates came_to sound_events judged_after
    led_by kept are_behind first_states states_at fits is_open is_begun events_of up_to least_from
inner-shown A = record { nothing = refl; closed = refl }
inner-shown B = record { nothing = refl; closed = refl }

inner-sides : (side : Side) →
    filter (λ f. is_side f.side side) (one_heard 1005761) ≡ map (heard_as 1 side) (one_left 1005761 side)
inner-sides A = refl
inner-sides B = refl

inner-twice : IsReadTwice (source_with 1 None 1000000 1005761) (stream_until 1 1005761) 1000000 988760 1005761
unfolding carried_by carried_in_body words ones_sum frame_of shift number is_sealed sequence_of after_steps
    is_within_steps delivered messages_of
inner-twice = record {
  one_link = record {
    rule = refl;
    options = refl;
    exact = record { account = record { slack = refl; drift = refl; asked = refl; start = refl }; between = refl };
    bag = refl;
  };
  quiet = inner-quiet;
  arrivals = inner-arrivals;
  shown = inner-shown;
  heard = record { sides = inner-sides; by_time = (omega arith, (tt, tt)) };
  sent = refl;
  told = refl;
}

-- ---- copies a nanosecond further apart

near-single : (side : Side) → found_single (source_with 0 (Some 988761) 1000000 1005761) side (one_sent 988761) ≡ []
unfolding carried_by carried_in_body words ones_sum frame_of shift number is_sealed sequence_of after_steps
    is_within_steps number_in times_with_room found_alone flaw_of is_whole is_copy
    without_first may_pair waiting is_cut least_left
near-single A = refl
near-single B = refl

near-quiet : IsQuietSource (source_with 0 (Some 988761) 1000000 1005761) (one_sent 988761)
unfolding carried_by carried_in_body words ones_sum frame_of shift number is_sealed sequence_of after_steps
    is_within_steps number_in times_with_room found_alone flaw_of is_whole is_copy found_of found_coming names
    without_first may_pair waiting is_cut least_left
near-quiet = record {
  paired = refl;
  start = refl;
  named = (refl, (refl, tt));
  by_time = (omega arith, (omega arith, tt));
  coming = refl;
  single = near-single;
}

near-arrivals : (side : Side) →
    AreItsArrivals (source_with 0 (Some 988761) 1000000 1005761) side (one_sent 988761) (one_came 988761 side)
unfolding GoByTime
near-arrivals A = record { at_port = refl; by_time = (tt, tt) }
near-arrivals B = record { at_port = refl; by_time = (tt, tt) }

near-shown : (side : Side) → IsShown (stream_until 0 1005761) (one_came 988761 side) (one_left 1005761 side)
unfolding is_sealed sequence_of shift number names fault_of are_same does_more one_more thinned_onto front_rest
    first_named once_named strangeness unexplained skipped closed_to deviates came_to sound_events judged_after
    led_by kept are_behind first_states states_at fits is_open is_begun events_of up_to least_from
near-shown A = record { nothing = refl; closed = refl }
near-shown B = record { nothing = refl; closed = refl }

near-sides : (side : Side) →
    filter (λ f. is_side f.side side) (one_heard 1005761) ≡ map (heard_as 1 side) (one_left 1005761 side)
near-sides A = refl
near-sides B = refl

near-twice : IsReadTwice (source_with 0 (Some 988761) 1000000 1005761) (stream_until 0 1005761) 1000000 988761 1005761
unfolding carried_by carried_in_body words ones_sum frame_of shift number is_sealed sequence_of after_steps
    is_within_steps delivered messages_of
near-twice = record {
  one_link = record {
    rule = refl;
    options = refl;
    exact = record { account = record { slack = refl; drift = refl; asked = refl; start = refl }; between = refl };
    bag = refl;
  };
  quiet = near-quiet;
  arrivals = near-arrivals;
  shown = near-shown;
  heard = record { sides = near-sides; by_time = (omega arith, (tt, tt)) };
  sent = refl;
  told = refl;
}

-- ---- a skew that is less than the latency

skew-single : (side : Side) → found_single (source_with 0 None 11239 17000) side (one_sent 0) ≡ []
unfolding carried_by carried_in_body words ones_sum frame_of shift number is_sealed sequence_of after_steps
    is_within_steps number_in times_with_room found_alone flaw_of is_whole is_copy
    without_first may_pair waiting is_cut least_left
skew-single A = refl
skew-single B = refl

skew-quiet : IsQuietSource (source_with 0 None 11239 17000) (one_sent 0)
unfolding carried_by carried_in_body words ones_sum frame_of shift number is_sealed sequence_of after_steps
    is_within_steps number_in times_with_room found_alone flaw_of is_whole is_copy found_of found_coming names
    without_first may_pair waiting is_cut least_left
skew-quiet = record {
  paired = refl;
  start = refl;
  named = (refl, (refl, tt));
  by_time = (omega arith, (omega arith, tt));
  coming = refl;
  single = skew-single;
}

skew-arrivals : (side : Side) → AreItsArrivals (source_with 0 None 11239 17000) side (one_sent 0) (one_came 0 side)
unfolding GoByTime
skew-arrivals A = record { at_port = refl; by_time = (tt, tt) }
skew-arrivals B = record { at_port = refl; by_time = (tt, tt) }

skew-shown : (side : Side) → IsShown (stream_until 0 17000) (one_came 0 side) (one_left 17000 side)
unfolding is_sealed sequence_of shift number names fault_of are_same does_more one_more thinned_onto front_rest
    first_named once_named strangeness unexplained skipped closed_to deviates came_to sound_events judged_after
    led_by kept are_behind first_states states_at fits is_open is_begun events_of up_to least_from
skew-shown A = record { nothing = refl; closed = refl }
skew-shown B = record { nothing = refl; closed = refl }

skew-sides : (side : Side) →
    filter (λ f. is_side f.side side) (one_heard 17000) ≡ map (heard_as 1 side) (one_left 17000 side)
skew-sides A = refl
skew-sides B = refl

skew-twice : IsReadTwice (source_with 0 None 11239 17000) (stream_until 0 17000) 11239 0 17000
unfolding carried_by carried_in_body words ones_sum frame_of shift number is_sealed sequence_of after_steps
    is_within_steps delivered messages_of
skew-twice = record {
  one_link = record {
    rule = refl;
    options = refl;
    exact = record { account = record { slack = refl; drift = refl; asked = refl; start = refl }; between = refl };
    bag = refl;
  };
  quiet = skew-quiet;
  arrivals = skew-arrivals;
  shown = skew-shown;
  heard = record { sides = skew-sides; by_time = (omega arith, (tt, tt)) };
  sent = refl;
  told = refl;
}

pub each_needed : EachIsNeeded
each_needed = record { inner = inner-twice; near = near-twice; skew = skew-twice }
