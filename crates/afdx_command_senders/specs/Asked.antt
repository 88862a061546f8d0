-- What a run over what systems sent is asked, and which of the frames of both roles count. A list
-- of frames has the newest first.
use Rattle.std.specs.Prelude.{ℕ, Bool, not, ◌&&◌, List, filter, length, map, Option}
use Rattle.afdx_config.specs.Rows.{Rows}
use Rattle.afdx_input_runs.specs.Joining.{Frame}
use Rattle.afdx_police.specs.Arrival.{Arrival}
use Rattle.afdx_command_conform.specs.Choices.{Choices, is_in_time, is_left_out}
use Rattle.afdx_command_conform.specs.ChoicesOf.{choices_of}
use Rattle.afdx_command_conform.specs.Sight.{of_tables}
use Rattle.afdx_command_conform.specs.Tapped.{Taps, is_of_came}
use Rattle.afdx_command_senders.specs.declared.asked.SenderChoices.{SenderChoices}

-- what one over a switch is asked; which ports were recorded; and by how many ns copies may be sent
-- apart, if that is given
pub record Asked : Type 0 where
  pub run : Choices
  pub taps : Taps
  pub apart : Option ℕ

-- as the code holds it, where these ports of a switch of these tables were recorded
abbrev pub asked_of : Rows → Taps → SenderChoices → Asked
asked_of t taps asked = record {
  run = choices_of (of_tables t taps) asked.choices.now;
  taps = taps;
  apart = asked.apart;
}

module _ (a : Asked) where
  -- a frame counts that came, from start to end, of a link that isn't left out
  unfoldable pub counts : Frame → Bool
  counts x = is_of_came x.role && is_in_time a.run x && not (is_left_out a.run x)

  -- those that do
  abbrev pub came_in : List Frame → List Arrival
  came_in frames = map (λ x. x.arrival) (filter counts frames)

  -- how many are passed over from start to end
  unfoldable pub is_missed : Frame → Bool
  is_missed x = is_in_time a.run x && is_left_out a.run x

  abbrev pub left_out_of : List Frame → ℕ
  left_out_of frames = length (filter is_missed frames)
