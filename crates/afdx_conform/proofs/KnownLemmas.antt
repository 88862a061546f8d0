-- A stream of which some was known at a moment.
use Rattle.std.proofs.Common.{refl, arith}
use Rattle.afdx_frame.specs.Register.{shift, number}
use Rattle.afdx_frame.specs.Sealing.{is_sealed, sequence_of}
use Rattle.afdx_police.specs.Arrival.{names}
use Rattle.afdx_police.specs.Shape.{fault_of}
use Rattle.afdx_conform.specs.Events.{GoUp, up_to, events_of}
use Rattle.afdx_conform.specs.Findings.{are_same, does_more, one_more, thinned_onto, front_rest, deviates, came_to, sound_events, judged_after}
use Rattle.afdx_conform.specs.SomeKnown.{SomeIsKnown}
use Rattle.afdx_conform.specs.States.{led_by, kept, are_behind, first_states, states_at}
use Rattle.afdx_conform.specs.Streams.{fits, is_open, is_begun}

pub some_known : SomeIsKnown
unfolding is_sealed sequence_of shift number names fault_of GoUp up_to events_of are_same does_more one_more thinned_onto front_rest
    deviates came_to sound_events judged_after led_by kept are_behind first_states states_at fits is_open is_begun
some_known = record {
  more = record {
    came = ((omega arith, tt), (tt, tt));
    left = (tt, tt);
    come_later = (omega arith, tt);
    leave_later = (omega arith, tt);
    end = omega arith;
    begun = λ y h. refl;
  };
  none = record {
    came = (tt, tt);
    left = tt;
    come_later = tt;
    leave_later = tt;
    end = omega arith;
    begun = λ y h. refl;
  };
  found = refl;
}
