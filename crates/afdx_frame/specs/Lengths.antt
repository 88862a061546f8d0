-- The lengths of frames, in bytes, with the check sequence (IEEE 802.3).
use Rattle.std.specs.Prelude.{ℕ, ◌≤◌}

abbrev pub least_frame : ℕ
least_frame = 64

abbrev pub greatest_frame : ℕ
greatest_frame = 1518

-- what a frame has beside its payload: the Ethernet, IPv4 and UDP headers (14, 20 and 8), the
-- sequence number and the check sequence
abbrev pub frame_overhead : ℕ
frame_overhead = 47

-- the most that one frame carries
abbrev pub greatest_payload : ℕ
greatest_payload = 1471

-- this many bytes are a frame
abbrev pub IsFrameLength : ℕ → Type 0
IsFrameLength n = (least_frame ≤ n) × (n ≤ greatest_frame)

-- this many bytes are a frame's payload
abbrev pub IsPayloadLength : ℕ → Type 0
IsPayloadLength n = (1 ≤ n) × (n ≤ greatest_payload)

-- the greatest buffer of an output port: the bytes of the frames that wait there
abbrev pub greatest_buffer : ℕ
greatest_buffer = 4194304
