-- The times of output ports, in ns.
use Rattle.std.specs.Prelude.{ℕ}

-- the latest at which a frame is put: a sender that takes it by 10^15 releases it within 256 gaps
-- of 128 ms
abbrev pub latest_put : ℕ
latest_put = 1000032768000000

-- the longest that a frame may wait for its turn, where there is a limit: 100 ms
abbrev pub greatest_wait : ℕ
greatest_wait = 100000000

-- the longest that a slot lasts: that of a frame of 1518 bytes on a line of 10 Mbit/s
abbrev pub longest_slot : ℕ
longest_slot = 1230400

-- by then each turn is over, of all frames that any port holds
abbrev pub drain_end : ℕ
drain_end = 1200000000000000
