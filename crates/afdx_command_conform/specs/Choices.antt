-- What a run is asked: by how much stamps may be off, and which of the frames of both roles count.
-- A list of frames has the newest first.
use Rattle.std.specs.Prelude.{ℕ, ◌+◌, ◌≤◌, Bool, true, false, not, ◌&&◌, ◌||◌, nat_eq, nat_le, nat_lt, List, [], ◌∷◌, length, filter, Option, Some, None}
use Rattle.std.specs.List.{list_any}
use Rattle.std.specs.Option.{ForSome}
use Rattle.afdx_config.specs.Rows.{Rows}
use Rattle.afdx_frame.specs.Times.{latest_listed}
use Rattle.afdx_frame.specs.Layout.{link_named_by}
use Rattle.afdx_frame.specs.declared.link.VlId.{VlId}
use Rattle.afdx_input_lines.specs.declared.role.Role.{Role}
use Rattle.afdx_input_lines.specs.declared.role.Role.TheVariants.{Came, Left}
use Rattle.afdx_input_runs.specs.Joining.{Frame}
use Rattle.afdx_conform.specs.Explanations.{from_time}
use Rattle.afdx_conform.specs.Leeway.{Leeway, reach}
use Rattle.afdx_conform.specs.LimitRanges.{most_bytes}
use Rattle.afdx_command_conform.specs.Sight.{Sight}
use Rattle.afdx_command_conform.specs.Tapped.{is_unheard}

-- The leeway, with the start from which on frames count; the end after which they don't, if one is
-- said; the links whose frames are left out, `None` for those of no link; what is seen of the
-- switch; and whether it conforms only if something is shown of each stream that is judged.
pub record Choices : Type 0 where
  pub by : Leeway
  pub until : Option ℕ
  pub left_out : List (Option VlId)
  pub sight : Sight
  pub exercised : Bool

-- the end of the recordings, if one is said, is no later than any time of a list
abbrev pub IsUntil : Option ℕ → Type 0
IsUntil until = ForSome until (λ time. time ≤ latest_listed)

-- both are the same link, or none
abbrev pub is_same_link : Option VlId → Option VlId → Bool
is_same_link None None = true
is_same_link None (Some b) = false
is_same_link (Some a) None = false
is_same_link (Some a) (Some b) = nat_eq a.0 b.0

abbrev pub is_behind : ℕ → Option ℕ → Bool
is_behind time None = false
is_behind time (Some until) = nat_lt until time

module _ (c : Choices) where
  -- a frame that came counts from the start on, one that left from the reach of two stamps before
  -- it
  abbrev pub is_before : Role → ℕ → Bool
  is_before Came time = nat_lt time (from_time c.by.start)
  is_before Left time = nat_lt (time + reach c.by) (from_time c.by.start)

  -- the frame is from start to end
  abbrev pub is_in_time : Frame → Bool
  is_in_time x = not (is_before x.role x.arrival.time) && not (is_behind x.arrival.time c.until)

  -- it is of a link that is left out
  abbrev pub is_left_out : Frame → Bool
  is_left_out x = list_any (λ link. is_same_link link (link_named_by x.arrival.bytes)) c.left_out

module _ (t : Rows) (c : Choices) where
  -- it is passed over, for its link or because its sender's port isn't recorded
  abbrev pub is_passed : Frame → Bool
  is_passed x = is_left_out c x || is_unheard t c.sight x

  -- it counts, if it isn't longer than any frame on a line
  unfoldable pub counts : Frame → Bool
  counts x = is_in_time c x && not (is_passed x) && nat_le (length x.arrival.bytes) most_bytes

  -- those that do, and how many are passed over from start to end
  abbrev pub counted : List Frame → List Frame
  counted frames = filter counts frames

  unfoldable pub is_missed : Frame → Bool
  is_missed x = is_in_time c x && is_passed x

  abbrev pub left_out_of : List Frame → ℕ
  left_out_of frames = length (filter is_missed frames)

-- the time of the newest, or 0
abbrev pub latest_of : List Frame → ℕ
latest_of [] = 0
latest_of (x ∷ past) = x.arrival.time

-- until when the frames are known: the end that is said, or the time of the newest
abbrev pub until_or : Option ℕ → List Frame → ℕ
until_or None frames = latest_of frames
until_or (Some until) frames = until
