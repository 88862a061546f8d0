-- How a virtual link is regulated (ARINC 664 Part 7): its gap, its jitter, and the account that
-- both give it.
use Rattle.std.specs.Prelude.{ℕ, ◌+◌, ◌*◌, ◌/◌, Bool, ◌==◌, List, [], ◌∷◌}
use Rattle.std.specs.List.{list_any}

-- the bandwidth allocation gaps, in ms
abbrev pub gaps : List ℕ
gaps = 1 ∷ 2 ∷ 4 ∷ 8 ∷ 16 ∷ 32 ∷ 64 ∷ 128 ∷ []

-- the longest of them
abbrev pub longest_gap : ℕ
longest_gap = 128

abbrev pub is_bag : ℕ → Bool
is_bag ms = list_any (λ bag. bag == ms) gaps

-- the greatest latency and the greatest skew of a link, in us
abbrev pub greatest_delay : ℕ
greatest_delay = 100000

-- the greatest jitter of a link, in us, by its gap in ms: of one that a system sends
abbrev pub jitter_from_system : ℕ → ℕ
jitter_from_system bag_ms = 1000 * bag_ms

-- and of one that may come over a cable from another switch: the latencies before this switch, of
-- at most 100 ms, are in its jitter too
abbrev pub jitter_from_any : ℕ → ℕ
jitter_from_any bag_ms = 1000 * bag_ms + greatest_delay

-- the bytes that a frame of this length takes on the wire: 20 more, for preamble, start delimiter
-- and the gap between frames
abbrev pub wire_of : ℕ → ℕ
wire_of bytes = bytes + 20

-- the time of a byte on the slowest line, of 10 Mbit/s, in ns
abbrev pub slowest_byte : ℕ
slowest_byte = 800

-- the bandwidth allocation gap in ms, the jitter in us, and the greatest wire size in bytes
pub record Regulation : Type 0 where
  pub bag_ms : ℕ
  pub jitter_us : ℕ
  pub smax : ℕ

-- of a link with this gap and jitter, whose frames have at most so many bytes
abbrev pub regulation_with : ℕ → ℕ → ℕ → Regulation
regulation_with bag_ms jitter_us lmax =
    record { bag_ms = bag_ms; jitter_us = jitter_us; smax = wire_of lmax }

-- in nanoseconds
abbrev pub bag : Regulation → ℕ
bag link = 1000000 * link.bag_ms

abbrev pub jitter : Regulation → ℕ
jitter link = 1000 * link.jitter_us

-- the units of an account in one byte: as many as the longest gap has nanoseconds, so that every
-- fill rate is whole
abbrev pub byte_units : ℕ
byte_units = 128000000

-- the units by which the account is filled in a nanosecond: the greatest wire size in each gap
abbrev pub fill_rate : Regulation → ℕ
fill_rate link = link.smax * (longest_gap / link.bag_ms)

-- the units of a full account
abbrev pub cap : Regulation → ℕ
cap link = fill_rate link * (bag link + jitter link)
