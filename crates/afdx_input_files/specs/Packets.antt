-- Packets of a pcapng.
use Rattle.std.specs.Prelude.{ℕ, Bool, false, ◌+◌, ◌*◌, ◌/◌, ◌%◌, ◌^◌, ◌==◌, ◌&&◌, nat_le, min, List, length, take, drop, Option, Some, None, option_map, unwrap_or, if◌then◌else◌}
use Rattle.afdx_input_files.specs.declared.order.Order.{Order}
use Rattle.afdx_input_files.specs.declared.interface.Interface.{Interface}
use Rattle.afdx_input_files.specs.declared.block_packet.Placed.{Placed}
use Rattle.afdx_input_files.specs.declared.recorded.CheckSequence.{CheckSequence}
use Rattle.afdx_input_files.specs.declared.recorded.Recorded.TheVariants.{Frame}
use Rattle.afdx_input_files.specs.declared.recorded.RecordedFrame.{RecordedFrame}
use Rattle.afdx_input_files.specs.declared.recorded.Stamp.TheVariants.{Missing}
use Rattle.afdx_input_files.specs.Orders.{word_at}
use Rattle.afdx_input_files.specs.Options.{filled, said}
use Rattle.afdx_input_files.specs.Pcap.{check_sequence_of}
use Rattle.afdx_input_files.specs.Recordings.{Numbered, longest_capture}
use Rattle.afdx_input_files.specs.Stamps.{ticked_stamp}

-- what takes a number, with its bytes of a block's body
abbrev pub numbered : List ℕ → Placed → Numbered
numbered body placed = record {
  what = placed.what;
  bytes = take placed.count (drop placed.start body);
}

-- so many bytes were captured, which stand with their filling behind so many others
unfoldable pub is_captured : ℕ → ℕ → List ℕ → Bool
is_captured start captured body =
    nat_le captured longest_capture && nat_le (start + filled captured) (length body)

-- the bytes of check sequence are bits 5 to 8 of a packet's flags, unless these are 0
unfoldable pub check_by_flags : CheckSequence → ℕ → CheckSequence
check_by_flags said flags =
    if flags / 2 ^ 5 % 2 ^ 4 == 0 then said else check_sequence_of (flags / 2 ^ 5 % 2 ^ 4)

-- bit 24 says that the recorder found the check sequence wrong
abbrev pub is_found_wrong : ℕ → Bool
is_found_wrong flags = flags / 2 ^ 24 % 2 == 1

-- a frame by the body of its packet and its flags
unfoldable pub packet_frame : Order → List ℕ → ℕ → Interface → ℕ → RecordedFrame
packet_frame order body place interface flags = record {
  interface = place;
  link_type = interface.link_type;
  stamp = ticked_stamp interface.resolution interface.offset
      (word_at order 4 body * 2 ^ 32 + word_at order 8 body);
  original = word_at order 16 body;
  check_sequence = check_by_flags interface.check_sequence flags;
  found_wrong = is_found_wrong flags;
}

-- a packet of an interface: 20 bytes, of which 4 from the 12th on say how many were captured, those
-- with their filling, and options, of which 2 has its flags
unfoldable pub packet_by : Order → List ℕ → ℕ → Interface → Option Placed
packet_by order body place interface =
    if is_captured 20 (word_at order 12 body) body
    then option_map (λ (flags : Option ℕ). record {
      what = Frame (packet_frame order body place interface (unwrap_or flags 0));
      start = 20;
      count = word_at order 12 body;
    }) (said order 2 4 (drop (20 + filled (word_at order 12 body)) body))
    else None

-- a frame of a simple packet
unfoldable pub simple_frame : Order → List ℕ → Interface → RecordedFrame
simple_frame order body interface = record {
  interface = 0;
  link_type = interface.link_type;
  stamp = Missing;
  original = word_at order 0 body;
  check_sequence = interface.check_sequence;
  found_wrong = false;
}

-- its captured bytes are all of the frame, or as many as the interface's snap length
unfoldable pub simple_captured : ℕ → ℕ → ℕ
simple_captured snap original = if snap == 0 then original else min original snap

-- a simple packet: 4 bytes, which say the frame's length, and the captured bytes
unfoldable pub simple_by : Order → List ℕ → Interface → Option Placed
simple_by order body interface =
    let captured = simple_captured interface.snap (word_at order 0 body) in
    if is_captured 4 captured body
    then Some (record {
      what = Frame (simple_frame order body interface);
      start = 4;
      count = captured;
    })
    else None
