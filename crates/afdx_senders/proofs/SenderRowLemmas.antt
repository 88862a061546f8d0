-- The worked rows compute.
use Rattle.std.proofs.Common.{refl}
use Rattle.afdx_config.specs.Reading.{link_of, listener_at, system_at_port}
use Rattle.afdx_config.specs.Switches.{first_of}
use Rattle.afdx_frame.specs.Carried.{carried_by, carried_in_body}
use Rattle.afdx_frame.specs.Datagrams.{words, ones_sum}
use Rattle.afdx_frame.specs.Parts.{frame_of}
use Rattle.afdx_frame.specs.Register.{shift, number}
use Rattle.afdx_frame.specs.Sealing.{is_sealed, sequence_of}
use Rattle.afdx_law_bounds.specs.Tables.{port_of, rule_of}
use Rattle.afdx_lawful.specs.Alone.{number_in, times_with_room, found_alone}
use Rattle.afdx_lawful.specs.Flaws.{flaw_of, is_whole, is_copy}
use Rattle.afdx_lawful.specs.Judged.{found_of, found_coming, quiet, judged_source}
use Rattle.afdx_lawful.specs.Partners.{without_first, may_pair, waiting, is_cut}
use Rattle.afdx_lawful.specs.Sources.{least_left}
use Rattle.afdx_senders.specs.AllLines.{all_lines, lines_coming, lines_when, singles_below}
use Rattle.afdx_senders.specs.SenderCounts.{alone_up_to, cut_up_to, sent_up_to}
use Rattle.afdx_senders.specs.SenderRows.{WorkedSenderRows}
use Rattle.afdx_senders.specs.Setups.{own_frames, source_at}
use Rattle.afdx_senders.specs.Sites.{is_sent_at, is_site, sent_by, source_of}
use Rattle.afdx_senders.specs.Terms.{id_of}

pub all_worked : WorkedSenderRows
unfolding carried_by carried_in_body words ones_sum frame_of shift number is_sealed sequence_of number_in
    times_with_room found_alone flaw_of is_whole is_copy found_of found_coming quiet judged_source without_first
    may_pair waiting is_cut least_left all_lines lines_coming lines_when singles_below alone_up_to cut_up_to
    sent_up_to own_frames source_at is_sent_at is_site sent_by source_of id_of port_of rule_of link_of listener_at
    system_at_port first_of
all_worked = record {
  copied = refl;
  sent = refl;
  cut = refl;
  cut_off = refl;
  single = refl;
  left_out = refl;
  not_its = refl;
  short = refl;
  elsewhere = refl;
  nowhere = refl;
  unknown = refl;
  nobody = refl;
  one_side = refl;
  sent_there = refl;
  alone = refl;
  paired = refl;
}
