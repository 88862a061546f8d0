-- What a new sender keeps.
use Rattle.std.specs.Prelude.{◌≡◌, ℕ, List, [], Option, Some, None, length, slice_get}
use Rattle.afdx_config.specs.Rows.{LinkRow}
use Rattle.afdx_send.specs.declared.line.SystemLink.{SystemLink}
use Rattle.afdx_send.specs.Lines.{LineStands, held_by}
use Rattle.afdx_send.specs.Regulator.{next_time_of}

-- of the link of a row, before anything came
pub record IsNewLine (l : LinkRow) (line : SystemLink) : Type 0 where
  pub stands : LineStands line l [] []
  pub next : next_time_of line.regulator ≡ None
  pub held : held_by line.regulator ≡ 0

pub record AreNewLines (links : List LinkRow) (lines : List SystemLink) : Type 0 where
  pub count : length lines ≡ length links
  pub each : (i : ℕ) (l : LinkRow) (line : SystemLink) →
      slice_get links i ≡ Some l →
      slice_get lines i ≡ Some line →
      IsNewLine l line

-- the place of the line with this identifier, or none if no line has it
abbrev pub IsPlaceIn : List SystemLink → ℕ → Option ℕ → Type 0
IsPlaceIn lines vl None =
    (i : ℕ) (line : SystemLink) → slice_get lines i ≡ Some line → line.vl.0 ≡ vl → ⊥
IsPlaceIn lines vl (Some place) = (line : SystemLink) × (slice_get lines place ≡ Some line)
    × (line.vl.0 ≡ vl)
