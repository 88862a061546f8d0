-- The worked examples compute.
use Rattle.std.proofs.Common.{refl}
use Rattle.std.specs.Fmt.{digits}
use Rattle.hex.specs.Hex.{encode_with}
use Rattle.afdx_frame.specs.Sealing.{is_sealed, sequence_of}
use Rattle.afdx_frame.specs.Register.{shift, number}
use Rattle.afdx_frame.specs.Parts.{frame_of}
use Rattle.afdx_frame.specs.Datagrams.{words, ones_sum}
use Rattle.afdx_frame.specs.Carried.{carried_by, carried_in_body}
use Rattle.afdx_frame.specs.Words.{ip_words}
use Rattle.afdx_config.specs.Numbers.{after_steps}
use Rattle.afdx_config.specs.Reading.{listener_at, system_at_port, has_port}
use Rattle.afdx_receive.specs.Arrivals.{frames_of}
use Rattle.afdx_receive.specs.Answers.{answer_to}
use Rattle.afdx_receive.specs.Steps.{is_within_steps}
use Rattle.afdx_receive.specs.Words.{own_words}
use Rattle.afdx_end_systems.specs.Handovers.{came_to}
use Rattle.afdx_end_systems.specs.Receptions.{reception_line, is_delivered, lines_of, delivered_in}
use Rattle.afdx_end_systems.specs.Worked.{WorkedRows}

pub all_worked : WorkedRows
unfolding digits encode_with is_sealed sequence_of shift number frame_of words ones_sum carried_by
    carried_in_body listener_at system_at_port has_port frames_of answer_to is_within_steps after_steps came_to
    reception_line is_delivered lines_of delivered_in own_words ip_words
all_worked = record {
  high_first = refl;
  low_first = refl;
  copy = refl;
  counted = refl;
  gap = refl;
  around = refl;
  again = refl;
  restart = refl;
  not_ipv4 = refl;
  bad_header = refl;
  fragment = refl;
  not_udp = refl;
  bad_length = refl;
  no_port = refl;
}
