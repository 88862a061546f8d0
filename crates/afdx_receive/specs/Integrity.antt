-- Integrity (ARINC 664 Part 7): which frames of a link are valid, looking back at those that came
-- before. A list of frames that came has the newest first.
use Rattle.std.specs.Prelude.{ℕ, Bool, true, ◌||◌, nat_eq, Option, List, find}
use Rattle.std.specs.Option.{option_map_or}
use Rattle.afdx_frame.specs.declared.link.Side.{Side}
use Rattle.afdx_frame.specs.Sides.{is_side}
use Rattle.afdx_receive.specs.Steps.{is_within_steps}

-- a frame that came to a receiver: when, in ns, by which network, its link and number, and its
-- bytes
pub record Incoming : Type 0 where
  pub time : ℕ
  pub side : Side
  pub vl : ℕ
  pub number : ℕ
  pub bytes : List ℕ

-- the last one before that came by this side
abbrev pub previous : Side → List Incoming → Option Incoming
previous side before = find (λ frame. is_side frame.side side) before

-- a frame may follow the one before it on its side: its number is 0, or one or two steps after
abbrev pub may_follow : Incoming → Incoming → Bool
may_follow frame earlier = nat_eq frame.number 0 || is_within_steps 2 earlier.number frame.number

-- a frame is valid if it is the first of its side, or may follow the last one before it there
abbrev pub is_valid : List Incoming → Incoming → Bool
is_valid before frame = option_map_or (may_follow frame) (previous frame.side before) true
