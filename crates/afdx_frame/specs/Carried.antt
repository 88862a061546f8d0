-- What the datagram in a frame carries, as a function of the frame's bytes: the tests in their
-- order, over the words at their places (RFC 791, RFC 768).
use Rattle.std.specs.Prelude.{◌≡◌, ℕ, ◌+◌, ◌-◌, ◌%◌, ◌^◌, ◌↔◌, ◌==◌, ◌&&◌, Bool, not, nat_le}
use Rattle.std.specs.Prelude.{if◌then◌else◌, Result, Ok, Err, List, length, take, drop, slice_index}
use Rattle.afdx_frame.specs.declared.fault.IpFault.{IpFault}
use Rattle.afdx_frame.specs.declared.fault.IpFault.TheVariants.{NotIpv4, BadIpHeader, Fragment}
use Rattle.afdx_frame.specs.declared.fault.IpFault.TheVariants.{NotUdp, BadUdpLength}
use Rattle.afdx_frame.specs.declared.datagram.Datagram.{Datagram}
use Rattle.afdx_frame.specs.Sealing.{AreBytes}
use Rattle.afdx_frame.specs.Datagrams.{words, ones_sum, Carries, DatagramFault}
use Rattle.afdx_frame.specs.Parts.{FrameParts, word_at, type_of_frame, body_of_frame, IsFrameOf}

-- a payload and the ports that it goes between
pub record Carried : Type 0 where
  pub from_port : ℕ
  pub to_port : ℕ
  pub payload : List ℕ

-- what a view of a datagram shows
abbrev pub carried_in : Datagram → Carried
carried_in datagram = record {
  from_port = datagram.from_port;
  to_port = datagram.to_port;
  payload = datagram.payload.now;
}

-- the length of header and data that the IPv4 header tells
abbrev pub total_length : List ℕ → ℕ
total_length body = word_at body 2

-- version 4 with a header of 20 bytes, a length that the body has room for, and a right checksum
abbrev pub is_right_header : List ℕ → Bool
is_right_header body =
    slice_index body 0 == 0x45
    && nat_le 28 (total_length body)
    && nat_le (total_length body) (length body)
    && ones_sum (words (take 20 body)) == 0xffff

-- no more fragments, and no offset
abbrev pub is_whole : List ℕ → Bool
is_whole body = word_at body 6 % 2 ^ 14 == 0

abbrev pub is_udp : List ℕ → Bool
is_udp body = slice_index body 9 == 17

-- the UDP length is that of the IPv4 header's data, and leaves a payload
abbrev pub is_right_udp_length : List ℕ → Bool
is_right_udp_length body = word_at body 24 + 20 == total_length body && not (word_at body 24 == 8)

-- what a body carries, or its first fault
unfoldable pub carried_in_body : List ℕ → Result Carried IpFault
carried_in_body body =
    if not (is_right_header body) then Err BadIpHeader
    else (if not (is_whole body) then Err Fragment
    else (if not (is_udp body) then Err NotUdp
    else (if not (is_right_udp_length body) then Err BadUdpLength
    else Ok (record {
      from_port = word_at body 20;
      to_port = word_at body 22;
      payload = take (total_length body - 28) (drop 28 body);
    }))))

-- what the datagram in a frame carries, or its first fault
unfoldable pub carried_by : List ℕ → Result Carried IpFault
carried_by bytes =
    if type_of_frame bytes == 0x0800 then carried_in_body (body_of_frame bytes) else Err NotIpv4

-- a frame with these parts carries this
abbrev pub FrameCarries : FrameParts → Carried → Type 0
FrameCarries p c = (p.kind ≡ 0x0800) × Carries p.body c.from_port c.to_port c.payload

-- what is computed of a frame is what its body carries, or its first fault
pub record DatagramIsComputed : Type 0 where
  pub carried : (bytes : List ℕ) (p : FrameParts) (c : Carried) →
      AreBytes bytes →
      IsFrameOf bytes p →
      (carried_by bytes ≡ Ok c) ↔ FrameCarries p c
  pub fault : (bytes : List ℕ) (p : FrameParts) (fault : IpFault) →
      AreBytes bytes →
      IsFrameOf bytes p →
      (carried_by bytes ≡ Err fault) ↔ DatagramFault p.kind p.body fault
