-- The worked rows compute.
use Rattle.std.proofs.Common.{refl}
use Rattle.afdx_config.specs.Numbers.{after_steps}
use Rattle.afdx_frame.specs.Carried.{carried_by, carried_in_body}
use Rattle.afdx_frame.specs.Datagrams.{words, ones_sum}
use Rattle.afdx_frame.specs.Parts.{frame_of}
use Rattle.afdx_frame.specs.Register.{shift, number}
use Rattle.afdx_frame.specs.Sealing.{is_sealed, sequence_of}
use Rattle.afdx_receive.specs.Steps.{is_within_steps}
use Rattle.afdx_lawful.specs.Alone.{number_in, times_with_room, found_alone}
use Rattle.afdx_lawful.specs.Flaws.{flaw_of, is_whole, is_copy}
use Rattle.afdx_lawful.specs.Judged.{found_of, found_coming, quiet, judged_source}
use Rattle.afdx_lawful.specs.Partners.{without_first, may_pair, waiting, is_cut}
use Rattle.afdx_lawful.specs.Sources.{least_left}
use Rattle.afdx_lawful.specs.Worked.{WorkedRows}

pub all_worked : WorkedRows
unfolding carried_by carried_in_body words ones_sum frame_of shift number is_sealed sequence_of after_steps
    is_within_steps number_in times_with_room found_alone flaw_of is_whole is_copy found_of found_coming quiet
    judged_source without_first may_pair waiting is_cut least_left
all_worked = record {
  paired = refl;
  as_late = refl;
  late = refl;
  cut = refl;
  single = refl;
  held = refl;
  let_go = refl;
  left_out = refl;
  not_first = refl;
  round = refl;
  to_zero = refl;
  goes_on = refl;
  soon = refl;
  by_jitter = refl;
  not_charged = refl;
  slack = refl;
  beyond_slack = refl;
  drift = refl;
  beyond_drift = refl;
  address = refl;
  damaged = refl;
  differs = refl;
  given = refl;
  before = refl;
  behind = refl;
  begun = refl;
}
