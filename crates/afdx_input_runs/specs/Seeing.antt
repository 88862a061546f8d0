-- Which frame of two lists may come after others.
use Rattle.std.specs.Prelude.{ℕ, ◌≤◌, ◌<◌, ◌*◌, List, [], ◌∷◌, length}
use Rattle.afdx_frame.specs.Seals.{IsSealedAs}
use Rattle.afdx_frame.specs.Times.{latest_listed}
use Rattle.afdx_input_sources.specs.Engine.{Item}
use Rattle.afdx_input_sources.specs.Items.{most_frames}
use Rattle.afdx_input_runs.specs.declared.seen.Seen.{Seen}

-- the time of the newest of these, or 0
abbrev pub latest_seen : List (Item Seen) → ℕ
latest_seen [] = 0
latest_seen (x ∷ past) = x.head.heading.time

-- a frame may come after these: no earlier, not too late, there are not too many, and what is said
-- of its seal is true
pub record SeenFollows (past : List (Item Seen)) (x : Item Seen) : Type 0 where
  pub order : latest_seen past ≤ x.head.heading.time
  pub early : x.head.heading.time ≤ latest_listed
  pub few : length past < 2 * most_frames
  pub sealed : IsSealedAs x.head.heading.seal x.bytes
