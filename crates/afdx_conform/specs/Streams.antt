-- A stream: one link, on one side, at one port where it leaves; what came of it, and what left.
use Rattle.std.specs.Prelude.{ℕ, ◌+◌, ◌*◌, ◌-◌, ◌/◌, Bool, ◌&&◌, false, nat_le, nat_lt, List, length, Option, Some, None}
use Rattle.std.specs.Int.{div_ceil}
use Rattle.std.specs.Str.{bytes_eq}
use Rattle.afdx_police.specs.Arrival.{Arrival}
use Rattle.afdx_police.specs.Rule.{Rule}
use Rattle.afdx_conform.specs.Leeway.{Leeway, reach}
use Rattle.afdx_conform.specs.Levels.{parts}

-- a frame that left: its number, the time of its last bit, its bytes
pub record Gone : Type 0 where
  pub number : ℕ
  pub time : ℕ
  pub bytes : List ℕ

-- what a stream is judged by: its link's rule and latency in ns, the ns of a byte on the line where
-- it leaves, what may be off, and the moment until which all that left was seen
pub record Terms : Type 0 where
  pub rule : Rule
  pub latency_ns : ℕ
  pub byte_ns : ℕ
  pub by : Leeway
  pub until : ℕ

module _ (z : Terms) where
  -- the longest that an accepted frame takes, by the recorder's clock
  abbrev pub latency : ℕ
  latency = parts * (z.latency_ns + z.by.inner) / (parts - z.by.drift)

  -- the shortest that a frame lasts on the line: with its preamble, without the gap behind it
  abbrev pub wire_time : List ℕ → ℕ
  wire_time bytes = div_ceil (parts * ((length bytes + 8) * z.byte_ns)) (parts + z.by.drift)

  -- the frame isn't too early for the arrival
  abbrev pub is_no_sooner : Arrival → Gone → Bool
  is_no_sooner x y = nat_le (x.time + wire_time x.bytes) (y.time + reach z.by)

  -- nor too late
  abbrev pub is_in_time : Arrival → Gone → Bool
  is_in_time x y = nat_le y.time (x.time + latency + reach z.by)

  -- the frame may be what the switch made of the arrival
  unfoldable pub fits : Arrival → Gone → Bool
  fits x y = bytes_eq x.bytes y.bytes && is_no_sooner x y && is_in_time x y

  -- what the switch makes of it may have left unseen
  unfoldable pub is_open : Arrival → Bool
  is_open x = nat_lt z.until (x.time + latency + reach z.by + reach z.by)

  -- the frame may be of an arrival before the start
  abbrev pub is_begun_by : Option ℕ → Gone → Bool
  is_begun_by None y = false
  is_begun_by (Some start) y = nat_lt y.time (start + latency + reach z.by)

  unfoldable pub is_begun : Gone → Bool
  is_begun y = is_begun_by z.by.start y
