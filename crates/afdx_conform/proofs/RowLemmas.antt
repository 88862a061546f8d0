-- The worked rows compute.
use Rattle.std.proofs.Common.{refl}
use Rattle.afdx_frame.specs.Register.{shift, number}
use Rattle.afdx_frame.specs.Sealing.{is_sealed, sequence_of}
use Rattle.afdx_police.specs.Arrival.{names}
use Rattle.afdx_police.specs.Shape.{fault_of}
use Rattle.afdx_conform.specs.Findings.{are_same, does_more, one_more, thinned_onto, front_rest, first_named}
use Rattle.afdx_conform.specs.Findings.{once_named, strangeness, unexplained, skipped, closed_to, deviates}
use Rattle.afdx_conform.specs.Findings.{came_to, sound_events, judged_after}
use Rattle.afdx_conform.specs.States.{led_by, kept, are_behind, first_states, states_at}
use Rattle.afdx_conform.specs.Streams.{fits, is_open, is_begun}
use Rattle.afdx_conform.specs.Worked.{WorkedRows}

pub all_worked : WorkedRows
unfolding is_sealed sequence_of shift number names fault_of are_same does_more one_more thinned_onto front_rest
    first_named once_named strangeness unexplained skipped closed_to deviates came_to sound_events judged_after
    led_by kept are_behind first_states states_at fits is_open is_begun
all_worked = record {
  none_left = refl;
  late = refl;
  apart = refl;
  early = refl;
  over_rate = refl;
  twice = refl;
  right = refl;
  late_apart = refl;
  as_late = refl;
  early_apart = refl;
  as_early = refl;
  over_rate_apart = refl;
  open_apart = refl;
  shut_apart = refl;
}
