-- A pcap: a header, and then frames.
use Rattle.std.specs.Prelude.{ℕ, Bool, false, ◌*◌, ◌/◌, ◌%◌, ◌^◌, ◌==◌, ◌&&◌, nat_lt, nat_le, List, drop, Option, Some, None, if◌then◌else◌}
use Rattle.afdx_input_files.specs.declared.order.Order.{Order}
use Rattle.afdx_input_files.specs.declared.form.PcapForm.{PcapForm}
use Rattle.afdx_input_files.specs.declared.recorded.CheckSequence.{CheckSequence}
use Rattle.afdx_input_files.specs.declared.recorded.CheckSequence.TheVariants.{Unsaid, Without, With}
use Rattle.afdx_input_files.specs.declared.recorded.Recorded.TheVariants.{Frame}
use Rattle.afdx_input_files.specs.declared.recorded.RecordedFrame.{RecordedFrame}
use Rattle.afdx_input_files.specs.Orders.{half_at, word_at}
use Rattle.afdx_input_files.specs.Stamps.{pcap_stamp}
use Rattle.afdx_input_files.specs.Recordings.{State, Meaning, Says, after_number, most_numbers, longest_capture}

-- the bytes of a pcap's header, and of a frame's
abbrev pub pcap_head : ℕ
pcap_head = 24

abbrev pub packet_head : ℕ
packet_head = 16

-- whether a frame ends with its check sequence, by the bytes of it that it has
unfoldable pub check_sequence_of : ℕ → CheckSequence
check_sequence_of bytes = if bytes == 0 then Without else if bytes == 4 then With else Unsaid

-- by the last word of the header: bit 26 tells whether it is said, and the highest four the half of
-- its bytes
unfoldable pub pcap_check : ℕ → CheckSequence
pcap_check word =
    if word / 2 ^ 26 % 2 == 1 then check_sequence_of (2 * (word / 2 ^ 28)) else Unsaid

-- what the header says; the link type is the last word's low 26 bits
unfoldable pub pcap_form : Order → Bool → List ℕ → PcapForm
pcap_form order nanoseconds header = record {
  nanoseconds = nanoseconds;
  link_type = word_at order 20 header % 2 ^ 26;
  check_sequence = pcap_check (word_at order 20 header);
}

-- it is version 2.4
unfoldable pub is_pcap_version : Order → List ℕ → Bool
is_pcap_version order header = half_at order 4 header == 2 && half_at order 6 header == 4

-- the bytes that follow a frame's header
unfoldable pub captured_by : State → List ℕ → Option ℕ
captured_by state header =
    if nat_lt state.blocks most_numbers && nat_le (word_at state.order 8 header) longest_capture
    then Some (word_at state.order 8 header) else None

-- a frame, by its header
unfoldable pub pcap_frame : PcapForm → Order → List ℕ → RecordedFrame
pcap_frame form order header = record {
  interface = 0;
  link_type = form.link_type;
  stamp = pcap_stamp form.nanoseconds (word_at order 0 header) (word_at order 4 header);
  original = word_at order 12 header;
  check_sequence = form.check_sequence;
  found_wrong = false;
}

-- a frame, with what was captured
unfoldable pub packet_meaning : PcapForm → State → List ℕ → Meaning
packet_meaning form state whole = Says (after_number state) (Some (record {
  what = Frame (pcap_frame form state.order whole);
  bytes = drop packet_head whole;
}))
